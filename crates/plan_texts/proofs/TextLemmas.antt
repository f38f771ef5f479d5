-- The characters of texts that are written of UTF-8, and values that are read as the texts that they were written of.
use Rattle.std.proofs.Common.{ℕ, List, [], ◌∷◌, ◌++◌, ◌≡◌, refl, sym, ap, ◌∙◌, map, Some, true, false, append-nil, append_assoc, encode_utf8_all, IsUtf8, chars, arith}
use Rattle.std.specs.List.{AllByRecursion, flat_map}
use Rattle.std.proofs.Math.Utf8.{scalars}
use Rattle.std.proofs.lemmas.Bool.{cond_both, cond-false, eqb-true}
use Rattle.std.proofs.lemmas.Grind.{flat_map-append}
use Rattle.std.proofs.lemmas.Str.{chars-append, chars-encodes, encodes-append, encodes-chars, scalars-chars, IsUtf8-append}
use Rattle.texts.specs.Shell.Quoting.{quoted_char, quoted_word, further, quoted, written}
use Rattle.plan_texts.specs.CommandText.{assignment}
use Rattle.plan_texts.specs.Graph.{escaped_char, escaped}
use Rattle.plan_texts.specs.ReadGraph.{value_from, value_of}

pub scalars_append : (xs ys : List ℕ) → scalars xs ≡ true → scalars ys ≡ true → scalars (xs ++ ys) ≡ true
scalars_append [] ys first second = second
scalars_append (c ∷ xs) ys first second = grind (arith, (scalars_append xs ys))

scalars_quoted : (word : List ℕ) → scalars word ≡ true → scalars (flat_map quoted_char word) ≡ true
scalars_quoted [] are = refl
scalars_quoted (c ∷ word) are = grind (arith, scalars_append, (scalars_quoted word))

scalars_word : (word : List ℕ) → scalars word ≡ true → scalars (quoted_word word) ≡ true
scalars_word word are = grind (arith, cond_both, scalars, scalars_append, scalars_quoted)

scalars_further : (words : List (List ℕ)) → AllByRecursion IsUtf8 words → scalars (further (map chars words)) ≡ true
scalars_further [] are = refl
scalars_further (word ∷ words) are = grind (arith, scalars_append, scalars_word, scalars-chars, (scalars_further words are.1))

scalars_words : (words : List (List ℕ)) → AllByRecursion IsUtf8 words → scalars (quoted (map chars words)) ≡ true
scalars_words words are = grind (arith, scalars_append, scalars_word, scalars-chars, scalars_further)

-- what is written of UTF-8 is UTF-8
pub written_utf8 : (words : List (List ℕ)) → AllByRecursion IsUtf8 words → IsUtf8 (written words)
written_utf8 words are = (quoted (map chars words), (scalars_words words are, refl))

-- the characters of words that are written before a text
pub written_chars : (words : List (List ℕ)) (rest : List ℕ) → AllByRecursion IsUtf8 words → chars (written words ++ rest) ≡ quoted (map chars words) ++ chars rest
written_chars words rest are = simp (chars-append, written_utf8, chars-encodes, scalars_words)

-- the characters of a text of ASCII
plain_text : (cs : List ℕ) → scalars cs ≡ true → encode_utf8_all cs ≡ cs → chars cs ≡ cs
plain_text cs are same = ap chars (sym same) ∙ chars-encodes cs are

-- the characters of a text of ASCII before a text
pub plain_chars : (cs rest : List ℕ) → scalars cs ≡ true → encode_utf8_all cs ≡ cs → chars (cs ++ rest) ≡ cs ++ chars rest
plain_chars cs rest are same = grind (arith, chars-append, plain_text)

-- assignments of UTF-8 are UTF-8
pub assignments_utf8 : (variables : List (List ℕ × List ℕ)) → AllByRecursion (λ p. IsUtf8 p.0 × IsUtf8 p.1) variables → AllByRecursion IsUtf8 (map assignment variables)
unfolding lib.Utf8.encode
assignments_utf8 [] are = tt
assignments_utf8 (p ∷ variables) are =
    (IsUtf8-append p.0 (61 ∷ p.1) are.0.0 (IsUtf8-append (61 ∷ []) p.1 (61 ∷ [], (refl, refl)) are.0.1), assignments_utf8 variables are.1)

-- ---- characters that are escaped

-- one more character
pub escaped_push : (escape : ℕ → List ℕ) (old now new yielded : List ℕ) (c : ℕ) → now ≡ old ++ encode_utf8_all (flat_map escape yielded) → new ≡ now ++ encode_utf8_all (escape c) → new ≡ old ++ encode_utf8_all (flat_map escape (yielded ++ c ∷ []))
escaped_push escape old now new yielded c before after =
    after ∙ ap (λ t. t ++ encode_utf8_all (escape c)) before
    ∙ append_assoc old (encode_utf8_all (flat_map escape yielded)) (encode_utf8_all (escape c))
    ∙ ap (λ t. old ++ t) (sym (rw (flat_map-append, encodes-append) (ap (λ t. encode_utf8_all (flat_map escape yielded) ++ encode_utf8_all t) (append-nil (escape c)))))

scalars_escaped : (cs : List ℕ) → scalars cs ≡ true → scalars (flat_map escaped_char cs) ≡ true
scalars_escaped [] are = refl
scalars_escaped (c ∷ cs) are = grind (arith, scalars_append, (scalars_escaped cs))

char_read : (c : ℕ) (rest read : List ℕ) → value_from false rest ≡ Some read → value_from false (escaped_char c ++ rest) ≡ Some (c ∷ read)
char_read c rest read found = grind (arith, cond_both, eqb-true, cond-false)

chars_read : (cs : List ℕ) → value_from false (flat_map escaped_char cs) ≡ Some cs
chars_read [] = refl
chars_read (c ∷ cs) = char_read c (flat_map escaped_char cs) cs (chars_read cs)

pub value_reads_back : (text : List ℕ) → IsUtf8 text → value_of (escaped text) ≡ Some text
value_reads_back text is = simp (chars-encodes, scalars_escaped, scalars-chars, chars_read, encodes-chars)
