-- What is written for Ninja is read as the edges of the plan.
use Rattle.std.proofs.Common.{ℕ, ◌<◌, ◌+◌, List, [], ◌∷◌, ◌++◌, ◌≡◌, refl, sym, ap, ◌∙◌, subst, append_assoc, append-nil, map, drop, Bool, true, false, not, ◌&&◌, eqb, eqb-true, eq-eqb, ne_eqb, if◌then◌else◌, bytes_eq, get_or, length, Option, Some, None, Result, Ok, codes, encode_utf8_all, arith, IsUtf8, chars}
use Rattle.std.specs.List.{AllByRecursion, flat_map, list_all}
use Rattle.std.proofs.lemmas.Bool.{false≢true, and_parts, and_from, not-true, cond_both, eqb-false}
use Rattle.std.proofs.lemmas.Int.Digits.{all_below_base_digits_of}
use Rattle.std.proofs.lemmas.Str.{encodes-chars, inside_one, encode_ascii, IsUtf8-append, IsUtf8-drop, IsCharBoundary-after_ascii}
use Rattle.std.specs.Option.{option_or, option_map_or}
use Rattle.std.proofs.Math.Seq.{drop-append-add, get_or-append_seam}
use Rattle.std.proofs.lemmas.List.{length-append}
use lib.Utf8.{encode}
use Rattle.texts.specs.Extension.{split_at_last, last_part}
use Rattle.texts.specs.Lists.{rest_after, first_word}
use Rattle.compilers.specs.declared.command.Cacheable.{Cacheable}
use Rattle.compilers.specs.declared.command.Cacheable.TheVariants.{Yes, No}
use Rattle.texts.specs.Numeral.{numeral}
use Rattle.texts.specs.Path.{lacks}
use Rattle.texts.proofs.PathLemmas.{lacks-places, lacks-append, split-text}
use Rattle.texts.specs.Shell.Quoting.{quoted_word, further, quoted, written}
use Rattle.compilers.specs.declared.plans.plan.NvccGeneratedSubcommand.{NvccGeneratedSubcommand}
use Rattle.compilers.specs.declared.plans.plan.Dropped.{Dropped}
use Rattle.compilers.specs.declared.plans.plan.Reason.{Reason}
use Rattle.compilers.specs.declared.plans.plan.Plan.{Plan}
use Rattle.plan_texts.specs.declared.refusal.Refusal.{Refusal}
use Rattle.plan_texts.specs.declared.format.Format.TheVariants.{Ninja}
use Rattle.plan_texts.specs.CommandText.{assignment, env_words, command_text}
use Rattle.plan_texts.specs.Description.{target_in, target_of, with_target, description}
use Rattle.plan_texts.specs.Judging.{holds_text, holds_variables, holds_command, judged_command, judged_commands, and_then}
use Rattle.plan_texts.specs.Script.{unless_refused}
use Rattle.compilers.specs.Reasons.{reason_name}
use Rattle.plan_texts.specs.Graph.{escaped, stamp_path, stamp_text, runner, touch, edge_command, edge_line, description_line, edge, plan_places, place_at, stamp_at, stamps_at, edges_from as written_edges, plan_edges, comment, head, graph, holds_dropped, judged_rest, ninja_answer}
use Rattle.plan_texts.specs.ReadBack.{IsOfTexts}
use Rattle.plan_texts.specs.ReadGraph.{parts_at, Edge, path_of, head_of, with_edge, edges_from, edges_of, path_at, edge_at, edges_of_plan, IsDroppedText}
use Rattle.compilers.specs.Listed.{Listed, listed}
use Rattle.command_files.specs.Numbered.{numbered}
use Rattle.command_files.specs.Order.{needs_at}
use Rattle.command_files.specs.PlanNeeds.{plan_needs}
use Rattle.texts.proofs.NumeralLemmas.{utf8-numeral}
use Rattle.plan_texts.proofs.TextLemmas.{written_utf8, value_reads_back}

-- ---- bytes that texts lack

pub lacks-parts : (byte : ℕ) (front back : List ℕ) → lacks byte (front ++ back) ≡ true → (lacks byte front ≡ true) × (lacks byte back ≡ true)
lacks-parts byte [] back h = (refl, h)
lacks-parts byte (c ∷ front) back h = grind (arith, and_from, (lacks-parts byte front back))

-- a byte below 128 stands in no other character's bytes
lacks-encode : (byte c : ℕ) → byte < 128 → eqb c byte ≡ false → lacks byte (encode c) ≡ true
lacks-encode byte c ascii other =
    lacks-places byte (encode c)
    (λ i within is. eqb-false c byte other (inside_one c [] (encode c) i (sym (append-nil (encode c))) within (subst (λ b. b < 128) (sym is) ascii) ∙ is))

lacks-encodes : (byte : ℕ) (cs : List ℕ) → byte < 128 → lacks byte cs ≡ true → lacks byte (encode_utf8_all cs) ≡ true
lacks-encodes byte [] ascii h = refl
lacks-encodes byte (c ∷ cs) ascii h =
    grind (arith, lacks-append, lacks-encode, not-true, (lacks-encodes byte cs ascii))

pub lacks-encoded : (byte : ℕ) (cs : List ℕ) → byte < 128 → lacks byte (encode_utf8_all cs) ≡ true → lacks byte cs ≡ true
lacks-encoded byte [] ascii h = refl
lacks-encoded byte (c ∷ cs) ascii h =
    grind (arith, lacks-parts, and_from, (lacks-encoded byte cs ascii), eqb-true, encode_ascii, false≢true, eq-eqb)

lacks-chars : (text : List ℕ) → IsUtf8 text → lacks 10 text ≡ true → lacks 10 (chars text) ≡ true
lacks-chars text is h = lacks-encoded 10 (chars text) (omega arith) (subst (λ t. lacks 10 t ≡ true) (sym (encodes-chars text is)) h)

lacks-flat : (f : ℕ → List ℕ) (cs : List ℕ) → ((c : ℕ) → eqb c 10 ≡ false → lacks 10 (f c) ≡ true) → lacks 10 cs ≡ true → lacks 10 (flat_map f cs) ≡ true
lacks-flat f [] each h = refl
lacks-flat f (c ∷ cs) each h = grind (arith, lacks-append, not-true, (lacks-flat f cs each))

lacks-one : (c : ℕ) → eqb c 10 ≡ false → lacks 10 (c ∷ []) ≡ true
lacks-one c other = and_from (not (eqb c 10)) true (ap not other) refl

-- ---- texts that stand on one line

-- UTF-8 with no end of a line
abbrev pub IsLine : List ℕ → Type 0
IsLine text = IsUtf8 text × (lacks 10 text ≡ true)

pub line-append : (front back : List ℕ) → IsLine front → IsLine back → IsLine (front ++ back)
line-append front back h k = (IsUtf8-append front back h.0 k.0, lacks-append 10 front back h.1 k.1)

lacks-word : (word : List ℕ) → lacks 10 word ≡ true → lacks 10 (quoted_word word) ≡ true
lacks-word word h = grind (arith, cond_both, lacks-append, lacks-flat, lacks-one)

lacks-further : (words : List (List ℕ)) → AllByRecursion IsLine words → lacks 10 (further (map chars words)) ≡ true
lacks-further [] are = refl
lacks-further (word ∷ words) are = grind (arith, lacks-append, lacks-word, lacks-chars, (lacks-further words are.1))

lacks-quoted : (words : List (List ℕ)) → AllByRecursion IsLine words → lacks 10 (quoted (map chars words)) ≡ true
lacks-quoted words are = grind (arith, lacks-append, lacks-word, lacks-chars, lacks-further)

all-utf8 : (words : List (List ℕ)) → AllByRecursion IsLine words → AllByRecursion IsUtf8 words
all-utf8 [] are = tt
all-utf8 (word ∷ words) are = (are.0.0, all-utf8 words are.1)

pub line-written : (words : List (List ℕ)) → AllByRecursion IsLine words → IsLine (written words)
line-written words are = (written_utf8 words (all-utf8 words are), lacks-encodes 10 (quoted (map chars words)) (omega arith) (lacks-quoted words are))

pub line-escaped : (text : List ℕ) → IsLine text → lacks 10 (escaped text) ≡ true
line-escaped text is = grind (arith, lacks-encodes, lacks-flat, cond_both, lacks-one, lacks-chars)

-- ---- numbers and stamps

lacks-digits : (byte : ℕ) (ds : List ℕ) → ((d : ℕ) → d < 10 → eqb (48 + d) byte ≡ false) → AllByRecursion (λ d. d < 10) ds → lacks byte (map (λ d. 48 + d) ds) ≡ true
lacks-digits byte [] other small = refl
lacks-digits byte (d ∷ ds) other small = grind (arith, and_from, (lacks-digits byte ds other small.1))

lacks-numeral : (byte n : ℕ) → ((d : ℕ) → d < 10 → eqb (48 + d) byte ≡ false) → lacks byte (codes "0") ≡ true → lacks byte (numeral n) ≡ true
lacks-numeral byte n other nothing = grind (arith, cond_both, lacks-digits, all_below_base_digits_of)

line-numeral : (n : ℕ) → IsLine (numeral n)
line-numeral n = (utf8-numeral n, lacks-numeral 10 n (λ d small. ne_eqb (48 + d) 10 (λ e. omega arith)) refl)

lacks-stamp : (byte group place : ℕ) → ((d : ℕ) → d < 10 → eqb (48 + d) byte ≡ false) → lacks byte (codes "0") ≡ true → lacks byte (codes "${tmp}/zigrunk.") ≡ true → lacks byte (codes ".") ≡ true → lacks byte (stamp_text group place) ≡ true
lacks-stamp byte group place other nothing front dot = grind (arith, lacks-append, lacks-numeral)

pub stamp-no_newline : (group place : ℕ) → lacks 10 (stamp_text group place) ≡ true
stamp-no_newline group place = lacks-stamp 10 group place (λ d small. ne_eqb (48 + d) 10 (λ e. omega arith)) refl refl refl

stamp-no_blank : (group place : ℕ) → lacks 32 (stamp_text group place) ≡ true
stamp-no_blank group place = lacks-stamp 32 group place (λ d small. ne_eqb (48 + d) 32 (λ e. omega arith)) refl refl refl

stamp-no_colon : (group place : ℕ) → lacks 58 (stamp_text group place) ≡ true
stamp-no_colon group place = lacks-stamp 58 group place (λ d small. ne_eqb (48 + d) 58 (λ e. omega arith)) refl refl refl

pub utf8-path : (tmp : List ℕ) (group place : ℕ) → IsUtf8 tmp → IsUtf8 (stamp_path tmp group place)
unfolding lib.Utf8.encode
utf8-path tmp group place is =
    IsUtf8-append tmp (codes "/zigrunk." ++ (numeral group ++ (codes "." ++ numeral place))) is
    (IsUtf8-append (codes "/zigrunk.") (numeral group ++ (codes "." ++ numeral place)) (codes "/zigrunk.", (refl, refl))
    (IsUtf8-append (numeral group) (codes "." ++ numeral place) (utf8-numeral group) (IsUtf8-append (codes ".") (numeral place) (codes ".", (refl, refl)) (utf8-numeral place))))

line-path : (tmp : List ℕ) (group place : ℕ) → IsLine tmp → IsLine (stamp_path tmp group place)
line-path tmp group place is =
    let name = lacks-append 10 (numeral group) (codes "." ++ numeral place) (line-numeral group).1 (line-numeral place).1 in
    (utf8-path tmp group place is.0, lacks-append 10 tmp (codes "/zigrunk." ++ (numeral group ++ (codes "." ++ numeral place))) is.1 name)

-- ---- commands

pub held-text : (text : List ℕ) → holds_text Ninja text ≡ true → lacks 10 text ≡ true
held-text [] h = refl
held-text (c ∷ cs) h = grind (arith, and_from, (held-text cs))

held-words : (words : List (List ℕ)) → AllByRecursion IsUtf8 words → list_all (holds_text Ninja) words ≡ true → AllByRecursion IsLine words
held-words [] are h = tt
held-words (word ∷ words) are h = grind (arith, held-text, (held-words words are.1))

held-variables : (variables : List (List ℕ × List ℕ)) → AllByRecursion (λ p. IsUtf8 p.0 × IsUtf8 p.1) variables → holds_variables Ninja variables ≡ true → AllByRecursion IsLine (map assignment variables)
unfolding lib.Utf8.encode
held-variables [] are h = tt
held-variables (p ∷ variables) are h =
    let parts = and_parts (holds_text Ninja p.0 && holds_text Ninja p.1) (holds_variables Ninja variables) h in
    let pair = and_parts (holds_text Ninja p.0) (holds_text Ninja p.1) parts.0 in (
      line-append p.0 (61 ∷ p.1) (are.0.0, held-text p.0 pair.0) (line-append (61 ∷ []) p.1 ((61 ∷ [], (refl, refl)), refl) (are.0.1, held-text p.1 pair.1)),
      held-variables variables are.1 parts.1,
    )

line-command : (front : List ℕ) (c : NvccGeneratedSubcommand) → IsLine front → IsOfTexts c → holds_command Ninja c ≡ true → IsLine (command_text front c)
unfolding lib.Utf8.encode
line-command front c is are h =
    let first = and_parts (holds_text Ninja c.cwd) (holds_variables Ninja c.env_vars && (holds_text Ninja c.exe && list_all (holds_text Ninja) c.args)) h in
    let second = and_parts (holds_variables Ninja c.env_vars) (holds_text Ninja c.exe && list_all (holds_text Ninja) c.args) first.1 in
    let third = and_parts (holds_text Ninja c.exe) (list_all (holds_text Ninja) c.args) second.1 in
    let run = line-append (written (c.exe ∷ c.args)) (codes " )") (line-written (c.exe ∷ c.args) ((are.exe, held-text c.exe third.0), held-words c.args are.args third.1)) ((codes " )", (refl, refl)), refl) in
    let launched = line-append (codes " ") (front ++ (written (c.exe ∷ c.args) ++ codes " )")) ((codes " ", (refl, refl)), refl) (line-append front (written (c.exe ∷ c.args) ++ codes " )") is run) in
    let env = line-append (written (env_words c)) (codes " " ++ (front ++ (written (c.exe ∷ c.args) ++ codes " )"))) (line-written (env_words c) (((codes "env", (refl, refl)), refl), held-variables c.env_vars are.variables second.0)) launched in
    let behind_cd = line-append (codes " && ") (written (env_words c) ++ (codes " " ++ (front ++ (written (c.exe ∷ c.args) ++ codes " )")))) ((codes " && ", (refl, refl)), refl) env in
    let cd = line-append (written (c.cwd ∷ [])) (codes " && " ++ (written (env_words c) ++ (codes " " ++ (front ++ (written (c.exe ∷ c.args) ++ codes " )"))))) (line-written (c.cwd ∷ []) ((are.cwd, held-text c.cwd first.0), tt)) behind_cd in
    line-append (codes "( cd ") (written (c.cwd ∷ []) ++ (codes " && " ++ (written (env_words c) ++ (codes " " ++ (front ++ (written (c.exe ∷ c.args) ++ codes " )")))))) ((codes "( cd ", (refl, refl)), refl) cd

line-runner : (cacheable : Cacheable) → IsLine (runner cacheable)
unfolding lib.Utf8.encode
line-runner Yes = ((codes "${ZIGRUNK_RUNNER-} ${ZIGRUNK_LAUNCHER-} ", (refl, refl)), refl)
line-runner No = ((codes "${ZIGRUNK_RUNNER-} ", (refl, refl)), refl)

line-edge : (tmp : List ℕ) (group place : ℕ) (c : NvccGeneratedSubcommand) → IsLine tmp → IsOfTexts c → holds_command Ninja c ≡ true → IsLine (edge_command tmp group place c)
unfolding lib.Utf8.encode
line-edge tmp group place c is are h =
    line-append (command_text (runner c.cacheable) c) (touch tmp group place) (line-command (runner c.cacheable) c (line-runner c.cacheable) are h)
    (line-append (codes " && touch ") (written (stamp_path tmp group place ∷ [])) ((codes " && touch ", (refl, refl)), refl) (line-written (stamp_path tmp group place ∷ []) (line-path tmp group place is, tt)))

-- ---- descriptions

-- what stands behind a character of one byte
utf8-behind : (front : List ℕ) (c : ℕ) (back : List ℕ) → c < 128 → IsUtf8 (front ++ c ∷ back) → IsUtf8 back
utf8-behind front c back ascii is =
    let whole = front ++ c ∷ back in
    let within : length front < length whole = omega (arith, length-append front (c ∷ back)) in
    let here : get_or whole (length front) 0 ≡ c = get_or-append_seam front c back 0 in
    let boundary = IsCharBoundary-after_ascii whole (length front) is within (subst (λ b. b < 128) (sym here) ascii) in
    subst IsUtf8 (drop-append-add front (c ∷ back) 1) (IsUtf8-drop whole (length front + 1) is boundary)

line-behind : (front : List ℕ) (c : ℕ) (back : List ℕ) → c < 128 → IsLine (front ++ c ∷ back) → IsLine back
line-behind front c back ascii is =
    (utf8-behind front c back ascii is.0, (lacks-parts 10 (c ∷ []) back (lacks-parts 10 front (c ∷ back) is.1).1).1)

line-last : (path : List ℕ) (parts : Option (List ℕ × List ℕ)) → parts ≡ split_at_last 47 path → IsLine path → IsLine (option_map_or (λ p. p.1) parts path)
line-last path None e is = is
line-last path (Some (front, back)) e is = line-behind front 47 back (omega arith) (subst IsLine (split-text 47 path front back e).0 is)

rest-found : (p s rest : List ℕ) → rest_after p s ≡ Some rest → s ≡ p ++ rest
rest-found [] s rest h = grind arith
rest-found (c ∷ cs) [] rest h = grind arith
rest-found (c ∷ cs) (d ∷ ds) rest h = grind (arith, eqb-true, (rest-found cs ds rest))

-- a text that stands on one line, if there is one
abbrev IsLineIf : Option (List ℕ) → Type 0
IsLineIf None = Unit {0}
IsLineIf (Some text) = IsLine text

line-or : (one other : Option (List ℕ)) → IsLineIf one → IsLineIf other → IsLineIf (option_or one other)
line-or None other h k = k
line-or (Some text) other h k = h

line-rest : (front word : List ℕ) (found : Option (List ℕ)) → rest_after (front ++ 61 ∷ []) word ≡ found → IsLine word → IsLineIf found
line-rest front word None e is = tt
line-rest front word (Some rest) e is =
    line-behind front 61 rest (omega arith) (subst IsLine (rest-found (front ++ 61 ∷ []) word rest e ∙ append_assoc front (61 ∷ []) rest) is)

line-target_in : (word : List ℕ) → IsLine word → IsLineIf (target_in word)
line-target_in word is =
    line-or (rest_after (codes "-D__CUDA_ARCH__=") word) (option_or (rest_after (codes "-arch=") word) (rest_after (codes "--arch=") word))
    (line-rest (codes "-D__CUDA_ARCH__") word (rest_after (codes "-D__CUDA_ARCH__=") word) refl is)
    (line-or (rest_after (codes "-arch=") word) (rest_after (codes "--arch=") word)
    (line-rest (codes "-arch") word (rest_after (codes "-arch=") word) refl is)
    (line-rest (codes "--arch") word (rest_after (codes "--arch=") word) refl is))

line-first : (words : List (List ℕ)) → AllByRecursion IsLine words → IsLineIf (first_word words)
line-first [] are = tt
line-first (word ∷ words) are = are.0

line-when : (b : Bool) (found : Option (List ℕ)) → IsLineIf found → IsLineIf (if b then found else None)
line-when true found h = h
line-when false found h = tt

line-target : (words : List (List ℕ)) → AllByRecursion IsLine words → IsLineIf (target_of words)
line-target [] are = tt
line-target (word ∷ words) are =
    let next : Option (List ℕ) = if bytes_eq word (codes "-arch") then first_word words else None in
    line-or (option_or (target_in word) next) (target_of words)
    (line-or (target_in word) next (line-target_in word are.0) (line-when (bytes_eq word (codes "-arch")) (first_word words) (line-first words are.1)))
    (line-target words are.1)

line-with : (program : List ℕ) (target : Option (List ℕ)) → IsLine program → IsLineIf target → IsLine (with_target program target)
unfolding lib.Utf8.encode
line-with program None is h = is
line-with program (Some target) is h = line-append program (32 ∷ target) is (line-append (32 ∷ []) target ((32 ∷ [], (refl, refl)), refl) h)

pub line-description : (c : NvccGeneratedSubcommand) → IsOfTexts c → holds_command Ninja c ≡ true → IsLine (description c)
line-description c are h =
    let first = and_parts (holds_text Ninja c.cwd) (holds_variables Ninja c.env_vars && (holds_text Ninja c.exe && list_all (holds_text Ninja) c.args)) h in
    let second = and_parts (holds_variables Ninja c.env_vars) (holds_text Ninja c.exe && list_all (holds_text Ninja) c.args) first.1 in
    let third = and_parts (holds_text Ninja c.exe) (list_all (holds_text Ninja) c.args) second.1 in
    line-with (last_part c.exe) (target_of c.args) (line-last c.exe (split_at_last 47 c.exe) refl (are.exe, held-text c.exe third.0))
    (line-target c.args (held-words c.args are.args third.1))

-- ---- parts of texts

parts-onto : (byte : ℕ) (front text first : List ℕ) (parts : List (List ℕ)) → lacks byte front ≡ true → parts_at byte text ≡ first ∷ parts → parts_at byte (front ++ text) ≡ (front ++ first) ∷ parts
parts-onto byte [] text first parts h e = e
parts-onto byte (c ∷ front) text first parts h e =
    grind (arith, not-true, (parts-onto byte front text first parts))

pub parts-past : (byte : ℕ) (part rest : List ℕ) → lacks byte part ≡ true → parts_at byte (part ++ byte ∷ rest) ≡ part ∷ parts_at byte rest
parts-past byte part rest h =
    parts-onto byte part (byte ∷ rest) [] (parts_at byte rest) h (rw (eq-eqb byte byte refl) refl) ∙ ap (λ p. p ∷ parts_at byte rest) (append-nil part)

parts-end : (byte : ℕ) (part : List ℕ) → lacks byte part ≡ true → parts_at byte part ≡ part ∷ []
parts-end byte part h = ap (parts_at byte) (sym (append-nil part)) ∙ parts-onto byte part [] [] [] h refl ∙ ap (λ p. p ∷ []) (append-nil part)

-- ---- needs

-- what stands behind `: run` on an edge's first line, and the paths that Ninja reads there
pub record IsNeeds (tmp text : List ℕ) (paths : List (List ℕ)) : Type 0 where
  pub newline : lacks 10 text ≡ true
  pub colon : lacks 58 text ≡ true
  pub read : map (path_of tmp) (drop 1 (parts_at 32 text)) ≡ paths

-- the stamp of the command with a number, as it stands behind a blank
abbrev number_text : List (ℕ × ℕ) → ℕ → List ℕ
number_text places n = stamp_text (place_at places n).0 (place_at places n).1

lacks-stamps : (byte : ℕ) (places : List (ℕ × ℕ)) (numbers : List ℕ) → ((group place : ℕ) → lacks byte (32 ∷ stamp_text group place) ≡ true) → lacks byte (stamps_at places numbers) ≡ true
lacks-stamps byte places [] each = refl
lacks-stamps byte places (n ∷ numbers) each =
    lacks-append byte (stamp_at places n) (stamps_at places numbers) (each (place_at places n).0 (place_at places n).1) (lacks-stamps byte places numbers each)

parts-stamps : (places : List (ℕ × ℕ)) (numbers : List ℕ) → parts_at 32 (stamps_at places numbers) ≡ [] ∷ map (number_text places) numbers
parts-stamps places [] = refl
parts-stamps places (n ∷ numbers) =
    grind (arith, append_assoc, parts-onto, stamp-no_blank, append-nil, (parts-stamps places numbers))

paths-stamps : (tmp : List ℕ) (places : List (ℕ × ℕ)) (numbers : List ℕ) → map (path_of tmp) (map (number_text places) numbers) ≡ map (path_at tmp places) numbers
paths-stamps tmp places [] = refl
paths-stamps tmp places (n ∷ numbers) = ap (λ paths. path_at tmp places n ∷ paths) (paths-stamps tmp places numbers)

needs-stamps : (tmp : List ℕ) (places : List (ℕ × ℕ)) (numbers : List ℕ) → IsNeeds tmp (stamps_at places numbers) (map (path_at tmp places) numbers)
needs-stamps tmp places numbers = record {
  newline = lacks-stamps 10 places numbers stamp-no_newline;
  colon = lacks-stamps 58 places numbers stamp-no_colon;
  read = ap (λ parts. map (path_of tmp) (drop 1 parts)) (parts-stamps places numbers) ∙ paths-stamps tmp places numbers;
}

-- ---- edges

abbrev build_line : List ℕ → List ℕ → List ℕ
build_line output needs = codes "build " ++ (output ++ (codes ": run" ++ needs))

abbrev value_line : List ℕ → List ℕ
value_line text = codes "  line = " ++ escaped text

abbrev shown_line : List ℕ → List ℕ
shown_line text = codes "  description = " ++ escaped text

-- the lines of an edge, before further ones
edge-lines : (output needs text shown rest : List ℕ) → (codes "build " ++ (output ++ (codes ": run" ++ (needs ++ (edge_line text ++ description_line shown))))) ++ rest
    ≡ build_line output needs ++ 10 ∷ (value_line text ++ 10 ∷ (shown_line shown ++ 10 ∷ rest))
edge-lines output needs text shown rest = simp append_assoc

-- they are three: none of them has an end of a line
edge-parts : (output needs text shown rest : List ℕ) → lacks 10 output ≡ true → lacks 10 needs ≡ true → IsLine text → IsLine shown →
    parts_at 10 ((codes "build " ++ (output ++ (codes ": run" ++ (needs ++ (edge_line text ++ description_line shown))))) ++ rest)
    ≡ build_line output needs ∷ value_line text ∷ shown_line shown ∷ parts_at 10 rest
edge-parts output needs text shown rest output_is needs_are text_is shown_is =
    let behind_needs = lacks-append 10 (codes ": run") needs refl needs_are in
    let first = lacks-append 10 (codes "build ") (output ++ (codes ": run" ++ needs)) refl (lacks-append 10 output (codes ": run" ++ needs) output_is behind_needs) in
    let second = lacks-append 10 (codes "  line = ") (escaped text) refl (line-escaped text text_is) in
    let third = lacks-append 10 (codes "  description = ") (escaped shown) refl (line-escaped shown shown_is) in
    ap (parts_at 10) (edge-lines output needs text shown rest)
    ∙ parts-past 10 (build_line output needs) (value_line text ++ 10 ∷ (shown_line shown ++ 10 ∷ rest)) first
    ∙ ap (λ parts. build_line output needs ∷ parts) (parts-past 10 (value_line text) (shown_line shown ++ 10 ∷ rest) second)
    ∙ ap (λ parts. build_line output needs ∷ value_line text ∷ parts) (parts-past 10 (shown_line shown) rest third)

head-read : (tmp output needs : List ℕ) (paths : List (List ℕ)) → lacks 58 output ≡ true → IsNeeds tmp needs paths →
    head_of tmp (build_line output needs) ≡ Some (path_of tmp output, paths)
head-read tmp output needs paths plain are = grind (arith, lacks-append, parts-past, parts-end)

-- an edge, before further lines
pub any-edge-read : (tmp output needs text shown rest : List ℕ) (paths : List (List ℕ)) (es : List Edge) →
    lacks 10 output ≡ true → lacks 58 output ≡ true → IsNeeds tmp needs paths → IsLine text → IsLine shown → edges_from tmp None (parts_at 10 rest) ≡ Some es →
    edges_from tmp None (parts_at 10 ((codes "build " ++ (output ++ (codes ": run" ++ (needs ++ (edge_line text ++ description_line shown))))) ++ rest))
    ≡ Some (record { output = path_of tmp output; needs = paths; command = text } ∷ es)
any-edge-read tmp output needs text shown rest paths es newline colon are line short found =
    ap (edges_from tmp None) (edge-parts output needs text shown rest newline are.newline line short)
    ∙ ap (λ head. edges_from tmp head (value_line text ∷ shown_line shown ∷ parts_at 10 rest)) (head-read tmp output needs paths colon are)
    ∙ ap (λ command. with_edge (path_of tmp output, paths) command (edges_from tmp None (parts_at 10 rest))) (value_reads_back text line.0)
    ∙ ap (with_edge (path_of tmp output, paths) (Some text)) found

edge-read : (tmp : List ℕ) (places : List (ℕ × ℕ)) (needs : List (List ℕ)) (n : ℕ) (l : Listed) (rest : List ℕ) (es : List Edge) →
    IsLine tmp → IsOfTexts l.command → holds_command Ninja l.command ≡ true → edges_from tmp None (parts_at 10 rest) ≡ Some es →
    edges_from tmp None (parts_at 10 (edge tmp (stamps_at places (needs_at needs n)) l ++ rest)) ≡ Some (edge_at tmp places needs n l ∷ es)
edge-read tmp places needs n l rest es is are h found =
    let numbers = needs_at needs n in
    any-edge-read tmp (stamp_text l.group l.place) (stamps_at places numbers) (edge_command tmp l.group l.place l.command) (description l.command) rest (map (path_at tmp places) numbers) es
    (stamp-no_newline l.group l.place) (stamp-no_colon l.group l.place) (needs-stamps tmp places numbers) (line-edge tmp l.group l.place l.command is are h) (line-description l.command are h) found

pub held-command : (c : NvccGeneratedSubcommand) (b : Bool) → holds_command Ninja c ≡ b → judged_command Ninja c ≡ Ok tt → holds_command Ninja c ≡ true
held-command c b e h = grind arith

pub then-both : (one next : Result (Unit {0}) Refusal) → and_then one next ≡ Ok tt → (one ≡ Ok tt) × (next ≡ Ok tt)
then-both one next h = grind arith

-- the edges of commands, before further lines
commands-read : (tmp : List ℕ) (places : List (ℕ × ℕ)) (needs : List (List ℕ)) (n : ℕ) (commands : List Listed) (rest : List ℕ) (es : List Edge) →
    IsLine tmp → AllByRecursion (λ l. IsOfTexts l.command) commands → judged_commands Ninja commands ≡ Ok tt → edges_from tmp None (parts_at 10 rest) ≡ Some es →
    edges_from tmp None (parts_at 10 (written_edges tmp places needs n commands ++ rest)) ≡ Some (numbered (edge_at tmp places needs) n commands ++ es)
commands-read tmp places needs n [] rest es is are h found = found
commands-read tmp places needs n (l ∷ commands) rest es is are h found =
    let judged = then-both (judged_command Ninja l.command) (judged_commands Ninja commands) h in
    let more = written_edges tmp places needs (n + 1) commands in
    ap (λ t. edges_from tmp None (parts_at 10 t)) (append_assoc (edge tmp (stamps_at places (needs_at needs n)) l) more rest)
    ∙ edge-read tmp places needs n l (more ++ rest) (numbered (edge_at tmp places needs) (n + 1) commands ++ es) is are.0 (held-command l.command (holds_command Ninja l.command) refl judged.0)
    (commands-read tmp places needs (n + 1) commands rest es is are.1 judged.1 found)

-- ---- comments

lacks-reason : (reason : Reason) → lacks 10 (reason_name reason) ≡ true
lacks-reason reason = grind arith

-- a comment without its end
abbrev comment_line : Dropped → List ℕ
comment_line d = codes "# dropped line " ++ (numeral d.line ++ (codes " run " ++ (numeral d.run ++ (codes " " ++ (reason_name d.reason ++ (codes " " ++ written (d.exe ∷ d.args)))))))

comment-lines : (d : Dropped) (rest : List ℕ) → comment d ++ rest ≡ comment_line d ++ 10 ∷ rest
comment-lines d rest = simp append_assoc refl

lacks-comment : (d : Dropped) → AllByRecursion IsLine (d.exe ∷ d.args) → lacks 10 (comment_line d) ≡ true
lacks-comment d are = grind (arith, lacks-append, lacks-reason, ((line-numeral d.line).1), ((line-numeral d.run).1), ((line-written (d.exe ∷ d.args) are).1))

comments-read : (tmp : List ℕ) (dropped : List Dropped) → AllByRecursion IsDroppedText dropped → list_all holds_dropped dropped ≡ true → edges_from tmp None (parts_at 10 (flat_map comment dropped)) ≡ Some []
comments-read tmp [] are h = refl
comments-read tmp (d ∷ dropped) are h =
    let parts = and_parts (holds_dropped d) (list_all holds_dropped dropped) h in
    let one = and_parts (holds_text Ninja d.exe) (list_all (holds_text Ninja) d.args) parts.0 in
    let words : AllByRecursion IsLine (d.exe ∷ d.args) = ((are.0.exe, held-text d.exe one.0), held-words d.args are.0.args one.1) in
    ap (λ t. edges_from tmp None (parts_at 10 t)) (comment-lines d (flat_map comment dropped))
    ∙ ap (edges_from tmp None) (parts-past 10 (comment_line d) (flat_map comment dropped) (lacks-comment d words))
    ∙ comments-read tmp dropped are.1 parts.1

-- ---- the file

head-lines : (tmp rest : List ℕ) → IsLine tmp → parts_at 10 (head tmp ++ rest) ≡ (codes "tmp = " ++ escaped tmp) ∷ codes "builddir = ${tmp}" ∷ codes "rule run" ∷ codes "  command = ${line} || { code=$$?; echo $$code > ${out}.status; exit $$code; }" ∷ parts_at 10 rest
head-lines tmp rest is = simp (append_assoc, parts-past, lacks-append, line-escaped)

-- the edges of a plan's commands, and the comments behind them
pub plan-reads : (tmp : List ℕ) (plan : Plan) → IsLine tmp → AllByRecursion (λ l. IsOfTexts l.command) (listed plan.groups) → AllByRecursion IsDroppedText plan.dropped →
    judged_commands Ninja (listed plan.groups) ≡ Ok tt → list_all holds_dropped plan.dropped ≡ true →
    edges_from tmp None (parts_at 10 (plan_edges tmp plan ++ flat_map comment plan.dropped)) ≡ Some (edges_of_plan tmp plan)
plan-reads tmp plan is commands dropped judged held =
    commands-read tmp (plan_places plan) (plan_needs plan) 0 (listed plan.groups) (flat_map comment plan.dropped) [] is commands judged (comments-read tmp plan.dropped dropped held)
    ∙ ap Some (append-nil (edges_of_plan tmp plan))

graph-reads : (tmp : List ℕ) (plan : Plan) → IsLine tmp → AllByRecursion (λ l. IsOfTexts l.command) (listed plan.groups) → AllByRecursion IsDroppedText plan.dropped →
    judged_commands Ninja (listed plan.groups) ≡ Ok tt → list_all holds_dropped plan.dropped ≡ true → edges_of (graph tmp plan) ≡ Some (edges_of_plan tmp plan)
graph-reads tmp plan is commands dropped judged held = grind (arith, head-lines, value_reads_back, plan-reads)

pub held-rest : (tmp : List ℕ) (dropped : List Dropped) (b : Bool) → (holds_text Ninja tmp && list_all holds_dropped dropped) ≡ b → judged_rest tmp dropped ≡ Ok tt → (holds_text Ninja tmp && list_all holds_dropped dropped) ≡ true
held-rest tmp dropped b e h = grind arith

pub unrefused : (verdict : Result (Unit {0}) Refusal) (made text : List ℕ) → unless_refused verdict made ≡ Ok text → (verdict ≡ Ok tt) × (made ≡ text)
unrefused verdict made text h = grind arith

pub graph_reads_back : (tmp : List ℕ) (plan : Plan) (text : List ℕ) → IsUtf8 tmp → AllByRecursion (λ l. IsOfTexts l.command) (listed plan.groups) → AllByRecursion IsDroppedText plan.dropped →
    ninja_answer tmp plan ≡ Ok text → edges_of text ≡ Some (edges_of_plan tmp plan)
graph_reads_back tmp plan text is commands dropped h = grind (arith, unrefused, then-both, and_parts, held-rest, graph-reads, held-text)
