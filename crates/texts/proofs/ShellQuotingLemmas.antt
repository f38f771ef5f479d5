-- Words that are written with quotes are read back.
use Rattle.std.proofs.Common.{ℕ, List, [], ◌∷◌, ◌++◌, ◌≡◌, ◌≢◌, refl, sym, ap, ◌∙◌, append-nil, append_assoc, map, Some, Bool, true, false, ◌==◌, ◌||◌, ◌&&◌, arith, String, string_bytes, encode_utf8, encode_utf8_all, cond, Result, is_ok, OnOk, chars}
use Rattle.std.specs.List.{list_all, flat_map}
use Rattle.std.proofs.lemmas.Bool.{cond_both, cond-false, and_parts, or_cases, eqb-true}
use Rattle.std.proofs.lemmas.Bool.Decides.{nat_tests}
use Rattle.std.proofs.lemmas.Grind.{flat_map-append}
use Rattle.std.proofs.lemmas.Str.{chars_from_encodes, encodes-chars, encodes-append, IsUtf8-string_bytes}
use Rattle.texts.specs.declared.shell.splitting.State.TheVariants.{Between, Word, SingleQuoted}
use Rattle.texts.specs.Shell.{hash, backslash, single_quote, double_quote, is_blank, HasWords, IsText}
use Rattle.texts.specs.Shell.Splitting.{Gives, words_from, split_chars}
use Rattle.texts.specs.Shell.Quoting.{is_safe, is_plain, quoted_char, quoted_word, further, quoted, written}
use Rattle.texts.proofs.ShellSoundLemmas.{reading, begins_bare}
use Rattle.texts.proofs.ShellCompleteLemmas.{text_of_words}

-- ---- a word in quotes

quoted_char_reads : (c : ℕ) (rest word : List ℕ) (words : List (List ℕ)) → words_from SingleQuoted rest ≡ Some (word ∷ words) → words_from SingleQuoted (quoted_char c ++ rest) ≡ Some ((c ∷ word) ∷ words)
quoted_char_reads c rest word words found = grind (arith, cond_both, reading, eqb-true, cond-false)

quoted_chars_read : (word rest : List ℕ) (words : List (List ℕ)) → words_from Word rest ≡ Some ([] ∷ words) → words_from SingleQuoted (flat_map quoted_char word ++ single_quote ∷ rest) ≡ Some (word ∷ words)
quoted_chars_read [] rest words found = reading SingleQuoted single_quote rest Word (Gives []) ([] ∷ words) refl found
quoted_chars_read (c ∷ word) rest words found = grind (arith, quoted_char_reads, (quoted_chars_read word rest words found))

-- ---- a plain word

-- what a plain word holds is a piece by itself, and no `#`
record IsBare (c : ℕ) : Type 0 where
  not_blank : is_blank c ≡ false
  not_hash : (c == hash) ≡ false
  not_single : c ≢ single_quote
  not_double : c ≢ double_quote
  not_backslash : c ≢ backslash

bare_from_safe : (c : ℕ) → is_safe c ≡ true → IsBare c
bare_from_safe c safe = grind (arith, nat_tests)

plain_chars_read : (option : Bool) (cs rest : List ℕ) (words : List (List ℕ)) → list_all (λ c. is_safe c || (option && (c == 61))) cs ≡ true → words_from Word rest ≡ Some ([] ∷ words) → words_from Word (cs ++ rest) ≡ Some (cs ∷ words)
plain_chars_read option [] rest words plain found = found
plain_chars_read option (c ∷ cs) rest words plain found =
    let parts = and_parts (is_safe c || (option && (c == 61))) (list_all (λ c. is_safe c || (option && (c == 61))) cs) plain in
    grind (arith, reading, cond-false, begins_bare, (plain_chars_read option cs rest words parts.1 found), bare_from_safe, eqb-true, and_parts, or_cases)

plain_word_reads : (word rest : List ℕ) (words : List (List ℕ)) → is_plain word ≡ true → words_from Word rest ≡ Some ([] ∷ words) → words_from Between (word ++ rest) ≡ Some (word ∷ words)
plain_word_reads [] rest words plain found = absurd cc
plain_word_reads (c ∷ cs) rest words plain found =
    let parts = and_parts (is_safe c) (list_all (λ d. is_safe d || ((c == 45) && (d == 61))) cs) plain in
    let is = bare_from_safe c parts.0 in
    reading Between c (cs ++ rest) Word (Gives (c ∷ [])) (cs ∷ words)
    (cond-false _ _ _ is.not_blank ∙ cond-false _ _ _ is.not_hash ∙ begins_bare c is.not_single is.not_double is.not_backslash)
    (plain_chars_read (c == 45) cs rest words parts.1 found)

-- ---- words

-- a word as it is written, before a text that ends it
word_reads : (word rest : List ℕ) (words : List (List ℕ)) → words_from Word rest ≡ Some ([] ∷ words) → words_from Between (quoted_word word ++ rest) ≡ Some (word ∷ words)
word_reads word rest words found = grind (arith, plain_word_reads, reading, append_assoc, quoted_chars_read)

-- further words, before a text that ends the last one
further_read : (words : List (List ℕ)) (rest : List ℕ) (more : List (List ℕ)) → words_from Word rest ≡ Some ([] ∷ more) → words_from Word (further words ++ rest) ≡ Some ([] ∷ (words ++ more))
further_read [] rest more found = found
further_read (word ∷ words) rest more found =
    grind (arith, reading, append_assoc, word_reads, (further_read words rest more found))

pub quoted_reads : (words : List (List ℕ)) → split_chars (quoted words) ≡ Some words
quoted_reads [] = refl
quoted_reads (word ∷ words) =
    ap (words_from Between) (sym (append-nil (quoted (word ∷ words))) ∙ append_assoc (quoted_word word) (further words) [])
    ∙ word_reads word (further words ++ []) (words ++ []) (further_read words [] [] refl)
    ∙ ap (λ ws. Some (word ∷ ws)) (append-nil words)

pub quoted_text : (words : List (List ℕ)) → IsText (quoted words) words
quoted_text words = text_of_words (quoted words) words (quoted_reads words)

-- ---- what is written, as bytes

-- one more character between quotes
pub quoted_push : (old now new yielded : List ℕ) (c : ℕ) → now ≡ old ++ encode_utf8_all (flat_map quoted_char yielded) → new ≡ now ++ encode_utf8_all (quoted_char c) → new ≡ old ++ encode_utf8_all (flat_map quoted_char (yielded ++ c ∷ []))
quoted_push old now new yielded c before after =
    grind (arith, append_assoc, flat_map-append, encodes-append, append-nil)

-- a word in quotes
pub quoted_whole : (old opened inside closed word : List ℕ) → is_plain word ≡ false → opened ≡ old ++ encode_utf8 single_quote → inside ≡ opened ++ encode_utf8_all (flat_map quoted_char word) → closed ≡ inside ++ encode_utf8 single_quote → closed ≡ old ++ encode_utf8_all (quoted_word word)
quoted_whole old opened inside closed word plain is_opened is_inside is_closed =
    grind (arith, cond-false, encodes-append, append-nil, append_assoc)

-- one more word, with a space in front
pub further_push : {Z : Type 0} (now spaced new : List ℕ) (word : String Z) (rest : List (String Z)) (all : List ℕ) →
    now ++ encode_utf8_all (further (map chars (map string_bytes (word ∷ rest)))) ≡ all → spaced ≡ now ++ encode_utf8 32 →
    new ≡ spaced ++ encode_utf8_all (quoted_word (chars (string_bytes word))) → new ++ encode_utf8_all (further (map chars (map string_bytes rest))) ≡ all
further_push now spaced new word rest all before space after = grind (arith, append_assoc, encodes-append)

-- the first word and the others
pub words_push : {Z : Type 0} (old now new first : List ℕ) (rest : List (String Z)) →
    now ≡ old ++ encode_utf8_all (quoted_word (chars first)) →
    new ≡ now ++ encode_utf8_all (further (map chars (map string_bytes rest))) →
    new ≡ old ++ written (first ∷ map string_bytes rest)
words_push old now new first rest before after = grind (arith, append_assoc, encodes-append)

-- what a write left, if it succeeded
pub ok_written : {E : Type 0} (r : Result (Unit {0}) E) (old more new want : List ℕ) → new ≡ cond (is_ok r) (old ++ more) old → old ++ more ≡ want → OnOk r (new ≡ want)
ok_written r old more new want is same = grind arith

same_bytes : {Z : Type 0} (words : List (String Z)) → map string_bytes words ≡ map encode_utf8_all (map chars (map string_bytes words))
same_bytes [] = refl
same_bytes (word ∷ words) = cc (encodes-chars (string_bytes word) (IsUtf8-string_bytes word), same_bytes words)

quoted_chars : {Z : Type 0} (words : List (String Z)) (t : String Z) → string_bytes t ≡ encode_utf8_all (quoted (map chars (map string_bytes words))) → chars (string_bytes t) ≡ quoted (map chars (map string_bytes words))
quoted_chars words t is = sym (chars_from_encodes (quoted (map chars (map string_bytes words))) (string_bytes t) (IsUtf8-string_bytes t) (sym is))

pub quoted_has_words : {Z : Type 0} (words : List (String Z)) (t : String Z) → string_bytes t ≡ encode_utf8_all (quoted (map chars (map string_bytes words))) → HasWords (string_bytes t) (map string_bytes words)
quoted_has_words words t is = grind (arith, quoted_chars, quoted_text, same_bytes)

pub quoted_value : {Z : Type 0} (words : List (String Z)) (t : String Z) → string_bytes t ≡ encode_utf8_all (quoted (map chars (map string_bytes words))) → split_chars (chars (string_bytes t)) ≡ Some (map chars (map string_bytes words))
quoted_value words t is = ap split_chars (quoted_chars words t is) ∙ quoted_reads (map chars (map string_bytes words))
