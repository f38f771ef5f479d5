-- Quoted words are read back by a POSIX shell.
use Rattle.std.proofs.Common.{ℕ, List, [], ◌∷◌, ◌++◌, ◌≡◌, refl, sym, ap, ◌∙◌, append-nil, append_assoc, map, Some, Bool, true, false, ◌==◌, ◌||◌, ◌&&◌, arith, option_map}
use Rattle.std.specs.List.{list_all, flat_map}
use Rattle.std.proofs.lemmas.Bool.{cond_both, cond-false, cond-true, and_parts, or_cases, eqb-true}
use Rattle.std.proofs.lemmas.Bool.Decides.{nat_tests}
use Rattle.texts.specs.Shell.{single_quote}
use Rattle.texts.specs.Posix.{Token, Word, Role, Plain, role_of, Place, Between, Inside, SingleQuoted, Step, between, inside, step, after_token, with_step, tokens_from, tokens, is_apart, ends_a_word, words_of, is_program, command}
use Rattle.texts.specs.Shell.Quoting.{is_safe, is_plain, quoted_char, quoted_word, further, quoted}

-- the tokens after one more character in front
pub reading : (place : Place) (c : ℕ) (cs : List ℕ) (s : Step) (ts : List Token) → step place c ≡ Some s → tokens_from s.0 cs ≡ Some ts → tokens_from place (c ∷ cs) ≡ Some (with_step s ts)
reading place c cs s ts read found = grind arith

-- ---- a word in quotes

quoted_char_reads : (c : ℕ) (rest word : List ℕ) (ts : List Token) → tokens_from (SingleQuoted false) rest ≡ Some (Word word ∷ ts) → tokens_from (SingleQuoted false) (quoted_char c ++ rest) ≡ Some (Word (c ∷ word) ∷ ts)
quoted_char_reads c rest word ts found = grind (arith, cond_both, reading, eqb-true, cond-false)

quoted_chars_read : (word rest : List ℕ) (ts : List Token) → tokens_from (Inside false) rest ≡ Some (Word [] ∷ ts) → tokens_from (SingleQuoted false) (flat_map quoted_char word ++ single_quote ∷ rest) ≡ Some (Word word ∷ ts)
quoted_chars_read [] rest ts found = reading (SingleQuoted false) single_quote rest (Inside false, [], []) (Word [] ∷ ts) refl found
quoted_chars_read (c ∷ word) rest ts found = grind (arith, quoted_char_reads, (quoted_chars_read word rest ts found))

-- ---- a plain word

-- a safe character is plain to a shell
role_safe : (c : ℕ) → is_safe c ≡ true → role_of c ≡ Plain
role_safe c safe = grind (arith, nat_tests, cond-false)

plain_char_reads : (option : Bool) (c : ℕ) → (is_safe c || (option && (c == 61))) ≡ true → step (Inside option) c ≡ Some (Inside option, [], c ∷ [])
plain_char_reads option c h = grind (arith, role_safe, and_parts, eqb-true, cond-true, or_cases)

plain_chars_read : (option : Bool) (cs rest : List ℕ) (ts : List Token) → list_all (λ c. is_safe c || (option && (c == 61))) cs ≡ true → tokens_from (Inside option) rest ≡ Some (Word [] ∷ ts) → tokens_from (Inside option) (cs ++ rest) ≡ Some (Word cs ∷ ts)
plain_chars_read option [] rest ts plain found = found
plain_chars_read option (c ∷ cs) rest ts plain found =
    grind (arith, reading, plain_char_reads, (plain_chars_read option cs rest ts), (and_parts (is_safe c || (option && (c == 61))) (list_all (λ c. is_safe c || (option && (c == 61))) cs) plain))

plain_word_reads : (word rest : List ℕ) (ts : List Token) → is_plain word ≡ true → ((option : Bool) → tokens_from (Inside option) rest ≡ Some (Word [] ∷ ts)) → tokens_from Between (word ++ rest) ≡ Some (Word word ∷ ts)
plain_word_reads [] rest ts plain found = absurd cc
plain_word_reads (c ∷ cs) rest ts plain found =
    let parts = and_parts (is_safe c) (list_all (λ d. is_safe d || ((c == 45) && (d == 61))) cs) plain in
    reading Between c (cs ++ rest) (Inside (c == 45), [], c ∷ []) (Word cs ∷ ts) (ap (between c) (role_safe c parts.0)) (plain_chars_read (c == 45) cs rest ts parts.1 (found (c == 45)))

-- ---- words

-- a word as it is written, before a text that ends it
word_reads : (word rest : List ℕ) (ts : List Token) → ((option : Bool) → tokens_from (Inside option) rest ≡ Some (Word [] ∷ ts)) → tokens_from Between (quoted_word word ++ rest) ≡ Some (Word word ∷ ts)
word_reads word rest ts found =
    cond_both (is_plain word) word (single_quote ∷ (flat_map quoted_char word ++ single_quote ∷ []))
    (λ written. tokens_from Between (written ++ rest) ≡ Some (Word word ∷ ts))
    (λ plain. plain_word_reads word rest ts plain found)
    (λ not_plain. reading Between single_quote ((flat_map quoted_char word ++ single_quote ∷ []) ++ rest) (SingleQuoted false, [], []) (Word word ∷ ts) refl
    (ap (tokens_from (SingleQuoted false)) (append_assoc (flat_map quoted_char word) (single_quote ∷ []) rest) ∙ quoted_chars_read word rest ts (found false)))

-- further words, before a text that ends the last one
further_read : (words : List (List ℕ)) (rest : List ℕ) (ts : List Token) → ((option : Bool) → tokens_from (Inside option) rest ≡ Some (Word [] ∷ ts)) → (option : Bool) →
    tokens_from (Inside option) (further words ++ rest) ≡ Some (Word [] ∷ (map Word words ++ ts))
further_read [] rest ts found option = found option
further_read (word ∷ words) rest ts found option =
    reading (Inside option) 32 ((quoted_word word ++ further words) ++ rest) (Between, Word [] ∷ [], []) (Word word ∷ (map Word words ++ ts)) refl
    (ap (tokens_from Between) (append_assoc (quoted_word word) (further words) rest)
    ∙ word_reads word (further words ++ rest) (map Word words ++ ts) (further_read words rest ts found))

-- a text that is apart ends a word and is then read by itself
ending : (option : Bool) (c : ℕ) (role : Role) → ends_a_word role ≡ true → inside option c role ≡ option_map (after_token (Word [])) (between c role)
ending option c role apart = grind arith

apart_reads : (rest : List ℕ) (ts : List Token) → is_apart rest ≡ true → tokens rest ≡ Some ts → (option : Bool) → tokens_from (Inside option) rest ≡ Some (Word [] ∷ ts)
apart_reads rest ts apart found option = grind (arith, ending)

-- ---- the law

pub quoted_before : (word : List ℕ) (words : List (List ℕ)) (rest : List ℕ) (more : List Token) → is_apart rest ≡ true → tokens rest ≡ Some more →
    tokens (quoted (word ∷ words) ++ rest) ≡ Some (map Word (word ∷ words) ++ more)
quoted_before word words rest more apart found =
    ap tokens (append_assoc (quoted_word word) (further words) rest)
    ∙ word_reads word (further words ++ rest) (map Word words ++ more) (further_read words rest more (apart_reads rest more apart found))

pub quoted_tokens : (words : List (List ℕ)) → tokens (quoted words) ≡ Some (map Word words)
quoted_tokens [] = refl
quoted_tokens (word ∷ words) =
    ap tokens (sym (append-nil (quoted (word ∷ words)))) ∙ quoted_before word words [] [] refl refl
    ∙ ap (λ (ts : List Token). Some (Word word ∷ ts)) (append-nil (map Word words))

pub one_token : (word : List ℕ) → tokens (quoted_word word) ≡ Some (Word word ∷ [])
one_token word = ap tokens (sym (append-nil (quoted_word word))) ∙ quoted_tokens (word ∷ [])

words-map : (words : List (List ℕ)) → words_of (map Word words) ≡ Some words
words-map [] = refl
words-map (word ∷ words) = ap (option_map (λ ws. word ∷ ws)) (words-map words)

pub quoted_command : (program : List ℕ) (words : List (List ℕ)) → is_program program ≡ true → command (quoted (program ∷ words)) ≡ Some (program ∷ words)
quoted_command program words is = simp (quoted_tokens, words-map, cond-true)
