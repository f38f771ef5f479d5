-- A POSIX shell reads a command's text, and a script, as the commands.
use Rattle.std.proofs.Common.{ℕ, List, [], ◌∷◌, ◌++◌, ◌≡◌, refl, sym, ap, ◌∙◌, append_assoc, append-nil, map, Some, true, codes, IsUtf8, chars, arith}
use Rattle.std.specs.List.{AllByRecursion, flat_map}
use Rattle.std.proofs.lemmas.Str.{chars-nil}
use Rattle.texts.specs.Posix.{Token, Word, Operator, Place, Between, step, prepend, tokens_from, tokens, is_apart}
use Rattle.texts.specs.Shell.Quoting.{written}
use Rattle.texts.proofs.PosixLemmas.{reading, quoted_before}
use Rattle.compilers.specs.declared.plans.plan.NvccGeneratedSubcommand.{NvccGeneratedSubcommand}
use Rattle.compilers.specs.Listed.{Listed}
use Rattle.plan_texts.specs.CommandText.{assignment, env_words, command_text}
use Rattle.plan_texts.specs.Script.{command_line, folder_line, lines}
use Rattle.plan_texts.specs.ReadBack.{IsOfTexts, shell_tokens, word_tokens, command_tokens, in_front, line_tokens, ScriptsReadBack}
use Rattle.plan_texts.proofs.TextLemmas.{written_chars, plain_chars, assignments_utf8}

-- ---- characters

prepend-nothing : (ts : List Token) → prepend [] ts ≡ ts
prepend-nothing ts = grind arith

-- a character that adds nothing, one that ends a token, and one that stands in a word
skipping : (place : Place) (c : ℕ) (cs : List ℕ) (next : Place) (ts : List Token) → step place c ≡ Some (next, [], []) → tokens_from next cs ≡ Some ts → tokens_from place (c ∷ cs) ≡ Some ts
skipping place c cs next ts read found = reading place c cs (next, [], []) ts read found ∙ ap Some (prepend-nothing ts)

ending : (place : Place) (c : ℕ) (cs : List ℕ) (next : Place) (token : Token) (ts : List Token) → step place c ≡ Some (next, token ∷ [], []) → tokens_from next cs ≡ Some ts → tokens_from place (c ∷ cs) ≡ Some (token ∷ ts)
ending place c cs next token ts read found = reading place c cs (next, token ∷ [], []) ts read found ∙ ap (λ us. Some (token ∷ us)) (prepend-nothing ts)

adding : (place : Place) (c : ℕ) (cs : List ℕ) (next : Place) (word : List ℕ) (ts : List Token) → step place c ≡ Some (next, [], c ∷ []) → tokens_from next cs ≡ Some (Word word ∷ ts) → tokens_from place (c ∷ cs) ≡ Some (Word (c ∷ word) ∷ ts)
adding place c cs next word ts read found = reading place c cs (next, [], c ∷ []) (Word word ∷ ts) read found

reads_open : (rest : List ℕ) (ts : List Token) → tokens rest ≡ Some ts → tokens (codes "( cd " ++ rest) ≡ Some (Operator (codes "(") ∷ Word (codes "cd") ∷ ts)
reads_open rest ts found = grind (arith, skipping, ending, adding)

reads_blank : (rest : List ℕ) (ts : List Token) → tokens rest ≡ Some ts → tokens (codes " " ++ rest) ≡ Some ts
reads_blank rest ts found = skipping Between 32 rest Between ts refl found

reads_and : (rest : List ℕ) (ts : List Token) → tokens rest ≡ Some ts → tokens (codes " && " ++ rest) ≡ Some (Operator (codes "&&") ∷ ts)
reads_and rest ts found = grind (arith, reads_blank, skipping, ending)

reads_touch : (rest : List ℕ) (ts : List Token) → tokens rest ≡ Some ts → tokens (codes " && touch " ++ rest) ≡ Some (Operator (codes "&&") ∷ Word (codes "touch") ∷ ts)
reads_touch rest ts found = grind (arith, reads_and, adding, ending)

reads_newline : (rest : List ℕ) (ts : List Token) → tokens rest ≡ Some ts → tokens (codes "\n" ++ rest) ≡ Some (Operator (codes "\n") ∷ ts)
reads_newline rest ts found = ending Between 10 rest Between (Operator (codes "\n")) ts refl found

reads_set : (rest : List ℕ) (ts : List Token) → tokens rest ≡ Some ts → tokens (codes "set -e\n" ++ rest) ≡ Some (Word (codes "set") ∷ Word (codes "-e") ∷ Operator (codes "\n") ∷ ts)
reads_set rest ts found = grind (arith, adding, ending, reading, prepend-nothing)

reads_mkdir : (rest : List ℕ) (ts : List Token) → tokens rest ≡ Some ts → tokens (codes "mkdir -p " ++ rest) ≡ Some (Word (codes "mkdir") ∷ Word (codes "-p") ∷ ts)
reads_mkdir rest ts found = grind (arith, adding, ending, reading, prepend-nothing)

-- ---- bytes

word-tokens : (words : List (List ℕ)) → map Word (map chars words) ≡ word_tokens words
word-tokens [] = refl
word-tokens (word ∷ words) = ap (λ ts. Word (chars word) ∷ ts) (word-tokens words)

-- written words, before a text that ends the last one
pub written_then : (word : List ℕ) (words : List (List ℕ)) (rest : List ℕ) (ts : List Token) → AllByRecursion IsUtf8 (word ∷ words) → is_apart (chars rest) ≡ true → shell_tokens rest ≡ Some ts →
    shell_tokens (written (word ∷ words) ++ rest) ≡ Some (word_tokens (word ∷ words) ++ ts)
written_then word words rest ts are apart found =
    ap tokens (written_chars (word ∷ words) rest are)
    ∙ quoted_before (chars word) (map chars words) (chars rest) ts apart found
    ∙ ap (λ us. Some (us ++ ts)) (word-tokens (word ∷ words))

blank_then : (rest : List ℕ) (ts : List Token) → shell_tokens rest ≡ Some ts → shell_tokens (codes " " ++ rest) ≡ Some ts
unfolding lib.Utf8.encode
blank_then rest ts found = ap tokens (plain_chars (codes " ") rest refl refl) ∙ reads_blank (chars rest) ts found

blank_apart : (rest : List ℕ) → is_apart (chars (codes " " ++ rest)) ≡ true
unfolding lib.Utf8.encode
blank_apart rest = ap is_apart (plain_chars (codes " ") rest refl refl)

-- words that run a command, before its program
runner_then : (words : List (List ℕ)) (rest : List ℕ) (ts : List Token) → AllByRecursion IsUtf8 words → shell_tokens rest ≡ Some ts →
    shell_tokens (in_front words ++ rest) ≡ Some (word_tokens words ++ ts)
runner_then [] rest ts are found = found
runner_then (word ∷ words) rest ts are found =
    let behind = in_front words ++ rest in
    ap shell_tokens (append_assoc (written (word ∷ []) ++ 32 ∷ []) (in_front words) rest ∙ append_assoc (written (word ∷ [])) (32 ∷ []) behind)
    ∙ written_then word [] (codes " " ++ behind) (word_tokens words ++ ts) (are.0, tt) (blank_apart behind) (blank_then behind (word_tokens words ++ ts) (runner_then words rest ts are.1 found))

env_utf8 : (c : NvccGeneratedSubcommand) → IsOfTexts c → AllByRecursion IsUtf8 (env_words c)
unfolding lib.Utf8.encode
env_utf8 c are = ((codes "env", (refl, refl)), assignments_utf8 c.env_vars are.variables)

-- a command's text before more text, its parts one in the other
abbrev run_bytes : NvccGeneratedSubcommand → List ℕ → List ℕ
run_bytes c tail = written (c.exe ∷ c.args) ++ (codes " )" ++ tail)

abbrev env_bytes : List (List ℕ) → NvccGeneratedSubcommand → List ℕ → List ℕ
env_bytes runner c tail = written (env_words c) ++ (codes " " ++ (in_front runner ++ run_bytes c tail))

abbrev line_bytes : List (List ℕ) → NvccGeneratedSubcommand → List ℕ → List ℕ
line_bytes runner c tail = codes "( cd " ++ (written (c.cwd ∷ []) ++ (codes " && " ++ env_bytes runner c tail))

run_then : (c : NvccGeneratedSubcommand) (tail : List ℕ) (ts : List Token) → IsOfTexts c → shell_tokens tail ≡ Some ts →
    shell_tokens (run_bytes c tail) ≡ Some (word_tokens (c.exe ∷ c.args) ++ Operator (codes ")") ∷ ts)
unfolding lib.Utf8.encode
run_then c tail ts are found = grind (arith, written_then, (plain_chars (codes " )") tail refl refl))

env_then : (runner : List (List ℕ)) (c : NvccGeneratedSubcommand) (tail : List ℕ) (ts : List Token) → AllByRecursion IsUtf8 runner → IsOfTexts c → shell_tokens tail ≡ Some ts →
    shell_tokens (env_bytes runner c tail) ≡ Some (word_tokens (env_words c) ++ (word_tokens runner ++ (word_tokens (c.exe ∷ c.args) ++ Operator (codes ")") ∷ ts)))
env_then runner c tail ts words are found =
    let run = run_bytes c tail in
    let run_tokens : List Token = word_tokens (c.exe ∷ c.args) ++ Operator (codes ")") ∷ ts in
    let behind = in_front runner ++ run in
    written_then (codes "env") (map assignment c.env_vars) (codes " " ++ behind) (word_tokens runner ++ run_tokens) (env_utf8 c are) (blank_apart behind)
    (blank_then behind (word_tokens runner ++ run_tokens) (runner_then runner run run_tokens words (run_then c tail ts are found)))

-- the tokens of a command before more of them
tokens-assoc : (runner : List (List ℕ)) (c : NvccGeneratedSubcommand) (ts : List Token) →
    command_tokens runner c ++ ts ≡ Operator (codes "(") ∷ Word (codes "cd") ∷ Word (chars c.cwd) ∷ Operator (codes "&&")
    ∷ (word_tokens (env_words c) ++ (word_tokens runner ++ (word_tokens (c.exe ∷ c.args) ++ Operator (codes ")") ∷ ts)))
tokens-assoc runner c ts = simp append_assoc

line_then : (runner : List (List ℕ)) (c : NvccGeneratedSubcommand) (tail : List ℕ) (ts : List Token) → AllByRecursion IsUtf8 runner → IsOfTexts c → shell_tokens tail ≡ Some ts →
    shell_tokens (line_bytes runner c tail) ≡ Some (command_tokens runner c ++ ts)
unfolding lib.Utf8.encode
line_then runner c tail ts words are found =
    let env = env_bytes runner c tail in
    let env_tokens : List Token = word_tokens (env_words c) ++ (word_tokens runner ++ (word_tokens (c.exe ∷ c.args) ++ Operator (codes ")") ∷ ts)) in
    let folder = written (c.cwd ∷ []) ++ (codes " && " ++ env) in
    let and = plain_chars (codes " && ") env refl refl in
    let behind : shell_tokens folder ≡ Some (Word (chars c.cwd) ∷ Operator (codes "&&") ∷ env_tokens) =
    written_then c.cwd [] (codes " && " ++ env) (Operator (codes "&&") ∷ env_tokens) (are.cwd, tt) (ap is_apart and) (ap tokens and ∙ reads_and (chars env) env_tokens (env_then runner c tail ts words are found)) in
    ap tokens (plain_chars (codes "( cd ") folder refl refl)
    ∙ reads_open (chars folder) (Word (chars c.cwd) ∷ Operator (codes "&&") ∷ env_tokens) behind
    ∙ ap Some (sym (tokens-assoc runner c ts))

-- a command's text before a text
pub text_then : (runner : List (List ℕ)) (c : NvccGeneratedSubcommand) (tail : List ℕ) (ts : List Token) → AllByRecursion IsUtf8 runner → IsOfTexts c → shell_tokens tail ≡ Some ts →
    shell_tokens (command_text (in_front runner) c ++ tail) ≡ Some (command_tokens runner c ++ ts)
text_then runner c tail ts words are found = grind (arith, append_assoc, line_then)

-- ---- the laws

nothing_reads : shell_tokens [] ≡ Some []
nothing_reads = ap tokens chars-nil

-- `touch` with a path, behind a command
pub touch_reads : (path : List ℕ) → IsUtf8 path → shell_tokens (codes " && touch " ++ written (path ∷ [])) ≡ Some (Operator (codes "&&") ∷ Word (codes "touch") ∷ Word (chars path) ∷ [])
unfolding lib.Utf8.encode
touch_reads path is =
    let text = written (path ∷ []) in
    let alone : shell_tokens text ≡ Some (Word (chars path) ∷ []) =
    ap shell_tokens (sym (append-nil text)) ∙ written_then path [] [] [] (is, tt) (ap is_apart chars-nil) nothing_reads in
    ap tokens (plain_chars (codes " && touch ") text refl refl) ∙ reads_touch (chars text) (Word (chars path) ∷ []) alone

pub command_reads_back : (runner : List (List ℕ)) (c : NvccGeneratedSubcommand) → AllByRecursion IsUtf8 runner → IsOfTexts c → shell_tokens (command_text (in_front runner) c) ≡ Some (command_tokens runner c)
command_reads_back runner c words are =
    ap shell_tokens (sym (append-nil (command_text (in_front runner) c))) ∙ text_then runner c [] [] words are nothing_reads ∙ ap Some (append-nil (command_tokens runner c))

line_before : (c : NvccGeneratedSubcommand) (rest : List ℕ) (ts : List Token) → IsOfTexts c → shell_tokens rest ≡ Some ts → shell_tokens (command_line c ++ rest) ≡ Some (line_tokens c ++ ts)
unfolding lib.Utf8.encode
line_before c rest ts are found =
    ap shell_tokens (append_assoc (command_text [] c) (10 ∷ []) rest)
    ∙ text_then [] c (10 ∷ rest) (Operator (codes "\n") ∷ ts) tt are (ap tokens (plain_chars (10 ∷ []) rest refl refl) ∙ reads_newline (chars rest) ts found)
    ∙ ap Some (sym (append_assoc (command_tokens [] c) (Operator (codes "\n") ∷ []) ts))

lines_read : (commands : List Listed) → AllByRecursion (λ l. IsOfTexts l.command) commands → shell_tokens (lines commands) ≡ Some (flat_map (λ l. line_tokens l.command) commands)
lines_read [] are = nothing_reads
lines_read (l ∷ commands) are =
    line_before l.command (lines commands) (flat_map (λ l. line_tokens l.command) commands) are.0 (lines_read commands are.1)

newline_then : (rest : List ℕ) (ts : List Token) → shell_tokens rest ≡ Some ts → shell_tokens (10 ∷ rest) ≡ Some (Operator (codes "\n") ∷ ts)
unfolding lib.Utf8.encode
newline_then rest ts found = ap tokens (plain_chars (10 ∷ []) rest refl refl) ∙ reads_newline (chars rest) ts found

newline_apart : (rest : List ℕ) → is_apart (chars (10 ∷ rest)) ≡ true
unfolding lib.Utf8.encode
newline_apart rest = ap is_apart (plain_chars (10 ∷ []) rest refl refl)

-- the line that makes a directory, before further lines
folder_before : (tmp rest : List ℕ) (ts : List Token) → IsUtf8 tmp → shell_tokens rest ≡ Some ts →
    shell_tokens (folder_line tmp ++ rest) ≡ Some (Word (codes "mkdir") ∷ Word (codes "-p") ∷ Word (chars tmp) ∷ Operator (codes "\n") ∷ ts)
unfolding lib.Utf8.encode
folder_before tmp rest ts is found =
    let name = written (tmp ∷ []) ++ 10 ∷ rest in
    ap (λ t. shell_tokens (codes "mkdir -p " ++ t)) (append_assoc (written (tmp ∷ [])) (10 ∷ []) rest)
    ∙ ap tokens (plain_chars (codes "mkdir -p ") name refl refl)
    ∙ reads_mkdir (chars name) (Word (chars tmp) ∷ Operator (codes "\n") ∷ ts)
    (written_then tmp [] (10 ∷ rest) (Operator (codes "\n") ∷ ts) (is, tt) (newline_apart rest) (newline_then rest ts found))

pub script_reads_back : ScriptsReadBack
unfolding lib.Utf8.encode
script_reads_back tmp commands is are =
    let behind = folder_line tmp ++ lines commands in
    let ts : List Token = flat_map (λ l. line_tokens l.command) commands in
    ap tokens (plain_chars (codes "set -e\n") behind refl refl)
    ∙ reads_set (chars behind) (Word (codes "mkdir") ∷ Word (codes "-p") ∷ Word (chars tmp) ∷ Operator (codes "\n") ∷ ts)
    (folder_before tmp (lines commands) ts is (lines_read commands are))
