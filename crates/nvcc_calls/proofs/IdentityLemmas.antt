-- Calls that differ in a part differ in the text that names their directory.
use Rattle.std.proofs.Common.{◌≡◌, ℕ, ◌+◌, ◌<◌, true, not, eqb, List, [], ◌∷◌, ◌++◌, length, map, take, drop, get_or, refl, ap, sym, ◌∙◌, append_assoc, length-append, arith}
use Rattle.std.specs.List.{AllByRecursion}
use Rattle.std.proofs.lemmas.Bool.{false≢true, and_parts, and_from, cond_both}
use Rattle.std.proofs.lemmas.Int.Digits.{all_below_base_digits_of}
use Rattle.std.proofs.Math.Seq.{take-append_seam, drop-append_seam}
use Rattle.texts.specs.Path.{lacks}
use Rattle.texts.specs.Numeral.{numeral}
use Rattle.texts.proofs.NumeralLemmas.{numeral-same}
use Rattle.nvcc_calls.specs.Directory.{sized, identity, IdentitiesDiffer}

-- a number holds no colon
lacks-digits : (ds : List ℕ) → AllByRecursion (λ d. d < 10) ds → lacks 58 (map (λ d. 48 + d) ds) ≡ true
lacks-digits [] small = refl
lacks-digits (d ∷ ds) small = grind (arith, and_from, (lacks-digits ds small.1))

lacks-numeral : (n : ℕ) → lacks 58 (numeral n) ≡ true
lacks-numeral n = grind (arith, cond_both, lacks-digits, all_below_base_digits_of)

no-colon : (c : ℕ) (cs : List ℕ) → lacks 58 (c ∷ cs) ≡ true → c ≡ 58 → ⊥
no-colon c cs h e = grind (arith, and_parts, false≢true)

-- the first colon divides a text in one way
cut : (xs ys us vs : List ℕ) → lacks 58 xs ≡ true → lacks 58 ys ≡ true → xs ++ 58 ∷ us ≡ ys ++ 58 ∷ vs → (xs ≡ ys) × (us ≡ vs)
cut [] [] us vs h k e = (refl, ap (drop 1) e)
cut [] (y ∷ ys) us vs h k e = absurd (no-colon y ys k (sym (ap (λ l. get_or l 0 0) e)))
cut (x ∷ xs) [] us vs h k e = absurd (no-colon x xs h (ap (λ l. get_or l 0 0) e))
cut (x ∷ xs) (y ∷ ys) us vs h k e = grind (arith, and_parts, (cut xs ys us vs (and_parts (not (eqb x 58)) (lacks 58 xs) h).1 (and_parts (not (eqb y 58)) (lacks 58 ys) k).1 (ap (drop 1) e)))

-- a text behind its length, and what stands behind it
sized-cut : (a b us vs : List ℕ) → sized a ++ us ≡ sized b ++ vs → (a ≡ b) × (us ≡ vs)
sized-cut a b us vs e =
    let front : numeral (length a) ++ 58 ∷ (a ++ us) ≡ numeral (length b) ++ 58 ∷ (b ++ vs) =
    sym (append_assoc (numeral (length a)) (58 ∷ a) us) ∙ e ∙ append_assoc (numeral (length b)) (58 ∷ b) vs in
    let parts = cut (numeral (length a)) (numeral (length b)) (a ++ us) (b ++ vs) (lacks-numeral (length a)) (lacks-numeral (length b)) front in
    let lengths : length a ≡ length b = numeral-same (length a) (length b) parts.0 in (
      sym (take-append_seam a us) ∙ ap (take (length a)) parts.1 ∙ ap (λ n. take n (b ++ vs)) lengths ∙ take-append_seam b vs,
      sym (drop-append_seam a us) ∙ ap (drop (length a)) parts.1 ∙ ap (λ n. drop n (b ++ vs)) lengths ∙ drop-append_seam b vs,
    )

no-text : (b vs : List ℕ) → [] ≡ sized b ++ vs → ⊥
no-text b vs e =
    let all : 0 ≡ length (sized b ++ vs) = ap length e in
    grind (arith, length-append)

pub identities : IdentitiesDiffer
identities [] [] e = refl
identities [] (b ∷ vs) e = absurd (no-text b (identity vs) e)
identities (a ∷ us) [] e = absurd (no-text a (identity us) (sym e))
identities (a ∷ us) (b ∷ vs) e = grind (arith, sized-cut, (identities us vs))
