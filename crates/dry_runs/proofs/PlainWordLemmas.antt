-- The shell words of a plain text are its parts between spaces.
use Rattle.std.proofs.Common.{◌≡◌, ℕ, suc, ◌<◌, Bool, true, false, cond, eqb, eqb-true, not, ◌&&◌, List, [], ◌∷◌, ◌++◌, Option, Some, refl, ap, sym, ◌∙◌, subst, map, length, get_or, append-nil, arith, encode_utf8, encode_utf8_all, option_map, is_none, chars, IsUtf8}
use Rattle.std.specs.List.{list_all}
use Rattle.std.proofs.lemmas.Bool.{false≢true, and_parts, or_parts, not-true, not_from_false, false_from_ne_true}
use Rattle.std.proofs.lemmas.Bool.Decides.{Decides-eqb, nat_tests}
use Rattle.std.proofs.lemmas.List.Folds.{list_all-append, list_all_at}
use Rattle.std.proofs.lemmas.Str.{encode_ascii, encodes-chars, inside_one, length-encode, len_utf8_bounds}
use Rattle.memchr.specs.Find.{IsFirstByte, is_byte3}
use Rattle.texts.specs.Path.{lacks}
use Rattle.texts.proofs.PathLemmas.{lacks-places}
use Rattle.texts.specs.Shell.Splitting.{prepend, reads_comment, reads_word, words_from, shell_words}
use Rattle.dry_runs.specs.PlainWords.{is_plain, word_of, cut, between}

-- ---- a search for three bytes

all-places : (test : ℕ → Bool) (bs : List ℕ) → ((i : ℕ) → i < length bs → test (get_or bs i 0) ≡ true) → list_all test bs ≡ true
all-places test [] h = refl
all-places test (b ∷ bs) h = rw (h 0 (omega arith), all-places test bs (λ i less. h (suc i) (omega (arith, less)))) refl

pub turned : (some none : Bool) → some ≡ not none → none ≡ not some
turned some none h = grind arith

pub none-found : (a b c : ℕ) (text : List ℕ) (r : Option ℕ) → IsFirstByte (is_byte3 a b c) text r → is_none r ≡ list_all (λ x. not (is_byte3 a b c x)) text
none-found a b c text r h = grind (arith, all-places, not_from_false, false_from_ne_true, list_all_at)

-- ---- the code's cuts

inside-word : (word behind : List ℕ) → lacks 32 word ≡ true → cut true (word ++ 32 ∷ behind) ≡ word ∷ cut false behind
inside-word [] behind h = refl
inside-word (c ∷ cs) behind h = grind (arith, not-true, (inside-word cs behind))

inside-last : (word : List ℕ) → lacks 32 word ≡ true → cut true word ≡ word ∷ []
inside-last [] h = refl
inside-last (c ∷ cs) h = grind (arith, not-true, (inside-last cs))

pub between-cut : (text word behind : List ℕ) → text ≡ word ++ 32 ∷ behind → lacks 32 word ≡ true → between text ≡ word_of word ++ between behind
between-cut text word behind is h = grind (arith, and_parts, not-true, inside-word)

pub between-last : (word : List ℕ) → lacks 32 word ≡ true → between word ≡ word_of word
between-last word h = grind (arith, and_parts, not-true, inside-last)

-- ---- bytes and characters

-- a text without a space, put before the rest of a word
prepended : (c : ℕ) (bs : List ℕ) (words : List (List ℕ)) → prepend (c ∷ []) (prepend bs words) ≡ prepend (c ∷ bs) words
prepended c bs words = grind arith

cut-inside : (bs rest : List ℕ) → lacks 32 bs ≡ true → cut true (bs ++ rest) ≡ prepend bs (cut true rest)
cut-inside [] rest h = sym (prepend-nothing (cut true rest)) where
  prepend-nothing : (words : List (List ℕ)) → prepend [] words ≡ words
  prepend-nothing [] = refl
  prepend-nothing (w ∷ words) = refl
cut-inside (b ∷ bs) rest h = grind (arith, not-true, prepended, (cut-inside bs rest))

cut-bytes : (inside : Bool) (bs rest : List ℕ) → 0 < length bs → lacks 32 bs ≡ true → cut inside (bs ++ rest) ≡ prepend bs (cut true rest)
cut-bytes inside [] rest some h = absurd (omega (arith, some))
cut-bytes true (b ∷ bs) rest some h = cut-inside (b ∷ bs) rest h
cut-bytes false (b ∷ bs) rest some h = grind (arith, and_parts, not-true, cut-inside, prepended)

encoded-lacks : (c : ℕ) → eqb c 32 ≡ false → lacks 32 (encode_utf8 c) ≡ true
encoded-lacks c other = lacks-places 32 (encode_utf8 c) (λ i less e. false≢true (sym other ∙ (Decides-eqb c 32).1 (inside_one c [] (encode_utf8 c) i (sym (append-nil (encode_utf8 c))) less (omega (arith, e)) ∙ e)))

encoded-some : (c : ℕ) → 0 < length (encode_utf8 c)
encoded-some c = omega (arith, length-encode c, len_utf8_bounds c)

encoded-prepend : (c : ℕ) (words : List (List ℕ)) → map encode_utf8_all (prepend (c ∷ []) words) ≡ prepend (encode_utf8 c) (map encode_utf8_all words)
encoded-prepend c words = grind arith

-- the parts of characters are those of their bytes
cut-encoded : (inside : Bool) (cs : List ℕ) → cut inside (encode_utf8_all cs) ≡ map encode_utf8_all (cut inside cs)
cut-encoded true [] = refl
cut-encoded false [] = refl
cut-encoded inside (c ∷ cs) = grind (arith, eqb-true, cut-bytes, encoded-some, encoded-lacks, encoded-prepend, encode_ascii, (cut-encoded false cs), (cut-encoded true cs))

-- ---- the state machine

-- whether a character is neither special nor a blank other than a space
abbrev plain : ℕ → Bool
plain c = not (is_byte3 34 39 92 c) && not (is_byte3 9 10 35 c)

-- what is known of a plain character
record Others (c : ℕ) : Type 0 where
  pub tab : eqb c 9 ≡ false
  pub newline : eqb c 10 ≡ false
  pub hash : eqb c 35 ≡ false
  pub backslash : eqb c 92 ≡ false
  pub single : eqb c 39 ≡ false
  pub double : eqb c 34 ≡ false

others : (c : ℕ) → plain c ≡ true → Others c
others c h = grind (arith, and_parts, or_parts, not-true)

-- The state inside a word is the one behind a letter, and the state between words the one behind a comment's end.
words-plain : (inside : Bool) (cs : List ℕ) → list_all plain cs ≡ true → words_from (cond inside (reads_word 97).0 (reads_comment 10).0) cs ≡ Some (cut inside cs)
words-plain true [] h = refl
words-plain false [] h = refl
words-plain inside (c ∷ cs) h =
    grind (arith, eqb-true, others, (words-plain false cs), (words-plain true cs), (and_parts (plain c) (list_all plain cs) h))

-- ---- a plain text is made of plain characters

chars-plain : (cs : List ℕ) → list_all plain (encode_utf8_all cs) ≡ true → list_all plain cs ≡ true
chars-plain [] h = refl
chars-plain (c ∷ cs) h = grind (arith, list_all-append, (chars-plain cs), false≢true, encode_ascii, nat_tests)

both-plain : (bs : List ℕ) → is_plain bs ≡ true → list_all plain bs ≡ true
both-plain [] h = refl
both-plain (b ∷ bs) h = grind (arith, (both-plain bs))

pub plain-words : (text : List ℕ) → IsUtf8 text → is_plain text ≡ true → Some (between text) ≡ shell_words text
plain-words text utf8 h =
    let whole = encodes-chars text utf8 in
    let all = chars-plain (chars text) (subst (λ bs. list_all plain bs ≡ true) (sym whole) (both-plain text h)) in
    sym (ap (option_map (map encode_utf8_all)) (words-plain false (chars text) all)
    ∙ ap Some (sym (cut-encoded false (chars text)) ∙ ap between whole))
