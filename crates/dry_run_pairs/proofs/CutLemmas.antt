-- Marks in texts.
use Rattle.std.proofs.Common.{◌≡◌, ℕ, ◌+◌, ◌<◌, true, false, nat_eq, List, [], ◌∷◌, ◌++◌, Option, Some, None, MatchOption, Bor, length, take, drop, get_or, option_copied, option_map, ap, refl, sym, ◌∙◌}
use Rattle.std.specs.Cmp.Lexicographic.{pointwise}
use Rattle.std.proofs.lemmas.Bool.Decides.{Decides-eqb}
use Rattle.std.proofs.lemmas.Slice.Eq.{strip_prefix_is}
use Rattle.std.specs.Option.{option_or}
use Rattle.std.proofs.lemmas.List.{append_assoc, append-nil, drop_more, take_more}
use Rattle.dry_run_pairs.specs.Cuts.{cut}
use Rattle.texts.specs.Lists.{rest_after}
use Rattle.texts.proofs.RestLemmas.{rest_after-append, rest_after-none}

-- what stripping a text answers
pub rest_after-slice : (p s : List ℕ) (r : Option (Bor (List ℕ)))
    → MatchOption r (pointwise nat_eq (take (length p) s) p ≡ false) (λ x. (pointwise nat_eq (take (length p) s) p ≡ true) × (x.now ≡ drop (length p) s) × (length x.now + length p ≡ length s))
    → option_copied r ≡ rest_after p s
rest_after-slice p s None h = sym (rest_after-none p s (strip_prefix_is (λ a b. Decides-eqb a b) s p None h))
rest_after-slice p s (Some x) h = sym (ap (rest_after p) (strip_prefix_is (λ a b. Decides-eqb a b) s p (Some x) h) ∙ rest_after-append p x.now)

-- a list up to the next place
pub take-on : {X : Type 0} → (xs : List X) (i : ℕ) (d : X) (rest : List X) → i < length xs → take (i + 1) xs ++ rest ≡ take i xs ++ get_or xs i d ∷ rest
take-on xs i d rest less = ap (λ t. t ++ rest) (take_more xs i d less) ∙ append_assoc (take i xs) (get_or xs i d ∷ []) rest

abbrev behind_taken : List ℕ → ℕ → List ℕ × List ℕ → List ℕ × List ℕ
behind_taken text i parts = (take i text ++ parts.0, parts.1)

abbrev behind_byte : ℕ → List ℕ × List ℕ → List ℕ × List ℕ
behind_byte c parts = (c ∷ parts.0, parts.1)

cut-first : (mark : List ℕ) (c : ℕ) (cs rest : List ℕ) → rest_after mark (c ∷ cs) ≡ Some rest → cut mark (c ∷ cs) ≡ Some ([], rest)
cut-first mark c cs rest e = ap (λ o. option_or (option_map (λ r. ([], r)) o) (option_map (behind_byte c) (cut mark cs))) e

cut-later : (mark : List ℕ) (c : ℕ) (cs : List ℕ) → rest_after mark (c ∷ cs) ≡ None → cut mark (c ∷ cs) ≡ option_map (behind_byte c) (cut mark cs)
cut-later mark c cs e = ap (λ o. option_or (option_map (λ r. ([], r)) o) (option_map (behind_byte c) (cut mark cs))) e

-- a search that comes to the mark
pub cut-here : (mark text : List ℕ) (i : ℕ) (rest : List ℕ) → i < length text → cut mark text ≡ option_map (λ parts. (take i text ++ parts.0, parts.1)) (cut mark (drop i text))
    → rest_after mark (drop i text) ≡ Some rest → cut mark text ≡ Some (take i text, rest)
cut-here mark text i rest less h e =
    let here : drop i text ≡ get_or text i 0 ∷ drop (i + 1) text = drop_more text i 0 less in
    h ∙ ap (option_map (behind_taken text i)) (ap (cut mark) here ∙ cut-first mark (get_or text i 0) (drop (i + 1) text) rest (ap (rest_after mark) (sym here) ∙ e))
    ∙ ap (λ t. Some (t, rest)) (append-nil (take i text))

shifted : (text : List ℕ) (i : ℕ) (o : Option (List ℕ × List ℕ)) → i < length text
    → option_map (behind_taken text i) (option_map (behind_byte (get_or text i 0)) o) ≡ option_map (behind_taken text (i + 1)) o
shifted text i None less = refl
shifted text i (Some parts) less = ap (λ t. Some (t, parts.1)) (sym (take-on text i 0 parts.0 less))

-- a search that goes on
pub cut-on : (mark text : List ℕ) (i : ℕ) → i < length text → cut mark text ≡ option_map (λ parts. (take i text ++ parts.0, parts.1)) (cut mark (drop i text))
    → rest_after mark (drop i text) ≡ None → cut mark text ≡ option_map (λ parts. (take (i + 1) text ++ parts.0, parts.1)) (cut mark (drop (i + 1) text))
cut-on mark text i less h e =
    let here : drop i text ≡ get_or text i 0 ∷ drop (i + 1) text = drop_more text i 0 less in
    h ∙ ap (option_map (behind_taken text i)) (ap (cut mark) here ∙ cut-later mark (get_or text i 0) (drop (i + 1) text) (ap (rest_after mark) (sym here) ∙ e))
    ∙ shifted text i (cut mark (drop (i + 1) text)) less
