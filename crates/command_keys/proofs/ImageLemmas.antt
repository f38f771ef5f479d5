-- The first part of an image, and the parts that follow it.
use Rattle.std.proofs.Common.{◌≡◌, ℕ, suc, ◌+◌, ◌<◌, ◌≤◌, Bool, true, false, cond, eqb, not, List, [], ◌∷◌, Some, None, length, take, drop, ap, subst, refl, arith}
use Rattle.std.specs.List.{onto_first, position, position_or_len}
use Rattle.command_keys.specs.Images.{is_comma, parts_of}

abbrev first_of : List ℕ → ℕ
first_of bs = position_or_len is_comma bs

parts-first : (bs : List ℕ) → first_of bs < length bs → parts_of bs ≡ take (first_of bs) bs ∷ parts_of (drop (suc (first_of bs)) bs)
parts-first [] h = absurd (omega (arith, h))
parts-first (c ∷ cs) h =
    elim (eqb c 44) as (λ b. cond (not b) (1 + first_of cs) 0 < length (c ∷ cs)
    → cond b ([] ∷ parts_of cs) (onto_first c (parts_of cs)) ≡ take (cond (not b) (1 + first_of cs) 0) (c ∷ cs) ∷ parts_of (drop (suc (cond (not b) (1 + first_of cs) 0)) (c ∷ cs))) [
      | true ↦ λ _. refl
      | false ↦ λ less.
          let next : suc (first_of cs) ≡ 1 + first_of cs = omega arith in
          let within : first_of cs < length cs = omega (arith, less) in
          subst (λ n. onto_first c (parts_of cs) ≡ take n (c ∷ cs) ∷ parts_of (drop (suc n) (c ∷ cs))) next (ap (onto_first c) (parts-first cs within))
    ] h

parts-none : (bs : List ℕ) → length bs ≤ first_of bs → parts_of bs ≡ bs ∷ []
parts-none [] h = refl
parts-none (c ∷ cs) h = grind (arith, (parts-none cs))

pub parts-at : (bs : List ℕ) (n : ℕ) → position is_comma bs ≡ Some n → parts_of bs ≡ take n bs ∷ parts_of (drop (n + 1) bs)
parts-at bs n e = grind (arith, (parts-first bs))

pub parts-last : (bs : List ℕ) → position is_comma bs ≡ None → parts_of bs ≡ bs ∷ []
parts-last bs e = grind (arith, (parts-none bs))
