-- Lists that first differ somewhere.
use Rattle.std.proofs.Common.{◌≡◌, ◌≢◌, ℕ, suc, ◌+◌, Bool, true, false, cond, List, [], ◌∷◌, Option, Some, None, take, refl, ap, sym, ◌∙◌, subst, arith}
use Rattle.texts.specs.Equality.{TellsEqual}
use Rattle.record_causes.specs.Places.{at, first_other}
use Rattle.record_causes.specs.Laws.{DifferAt}

module _ {A : Type 0} (same : A → A → Bool) (tells : TellsEqual same) where
  pub same-if-none : (n : ℕ) (xs ys : List A) → first_other same n xs ys ≡ None → xs ≡ ys
  same-if-none n [] [] e = refl
  same-if-none n [] (y ∷ ys) e = absurd (cc)
  same-if-none n (x ∷ xs) [] e = absurd (cc)
  same-if-none n (x ∷ xs) (y ∷ ys) e =
      elim (same x y) as (λ b. same x y ≡ b → cond b (first_other same (suc n) xs ys) (Some n) ≡ None → x ∷ xs ≡ y ∷ ys) [
        | true ↦ λ q k. λ i. (tells x y).0 q i ∷ same-if-none (suc n) xs ys k i
        | false ↦ λ _ k. absurd (cc)
      ] refl e

  pub none-of-same : (n : ℕ) (xs : List A) → first_other same n xs xs ≡ None
  none-of-same n [] = refl
  none-of-same n (x ∷ xs) = ap (λ b. cond b (first_other same (suc n) xs xs) (Some n)) ((tells x x).1 refl) ∙ none-of-same (suc n) xs

  differ-from : (n m : ℕ) (xs ys : List A) → first_other same n xs ys ≡ Some m → (i : ℕ) × (m ≡ n + i) × DifferAt i xs ys
  differ-from n m [] [] e = absurd (cc)
  differ-from n m [] (y ∷ ys) e = (0, (let q : m ≡ n = cc in grind arith), (refl, λ k. cc))
  differ-from n m (x ∷ xs) [] e = (0, (let q : m ≡ n = cc in grind arith), (refl, λ k. cc))
  differ-from n m (x ∷ xs) (y ∷ ys) e =
      elim (same x y) as (λ b. same x y ≡ b → cond b (first_other same (suc n) xs ys) (Some n) ≡ Some m → (i : ℕ) × (m ≡ n + i) × DifferAt i (x ∷ xs) (y ∷ ys)) [
        | true ↦ λ q k.
            let (i, here, differ) = differ-from (suc n) m xs ys k in
            (suc i, grind arith, ((λ j. (tells x y).0 q j ∷ differ.0 j), differ.1))
        | false ↦ λ q k. (0, (let z : m ≡ n = cc in grind arith), (refl, λ z. let w : x ≡ y = cc in (let v : same x y ≡ true = (tells x y).1 w in cc)))
      ] refl e

  pub differ-at : (m : ℕ) (xs ys : List A) → first_other same 0 xs ys ≡ Some m → DifferAt m xs ys
  differ-at m xs ys e =
      let (i, here, there) = differ-from 0 m xs ys e in
      subst (λ t. DifferAt t xs ys) (let q : i ≡ m = grind arith in q) there
