-- Searches along a list, place by place.
use Rattle.std.proofs.Common.{◌≡◌, ℕ, ◌+◌, ◌<◌, ◌&&◌, ◌||◌, Bool, true, false, cond, suc, zero, List, [], ◌∷◌, Some, drop, length, refl, ap, sym, ◌∙◌, arith, add-one, bytes_eq}
use Rattle.std.specs.List.{find, list_any, slice_get}
use Rattle.std.specs.Cmp.Lexicographic.{pointwise}
use Rattle.texts.specs.Lists.{is_some_and}
use Rattle.canonical_names.proofs.SuffixLemmas.{drop-got}

module _ {A : Type 0} where
  -- what stands at a place
  pub at-place : (xs : List A) (i : ℕ) → i < length xs → (x : A) × (slice_get xs i ≡ Some x) × (drop i xs ≡ x ∷ drop (i + 1) xs)
  at-place xs i lt = let here = got xs i lt in (here.0, here.1, rw add-one (drop-got xs i here.0 here.1)) where
    got : (xs : List A) (i : ℕ) → i < length xs → (x : A) × (slice_get xs i ≡ Some x)
    got [] i lt = absurd (omega (arith, lt))
    got (x ∷ xs) zero lt = (x, refl)
    got (x ∷ xs) (suc i) lt = got xs i (omega (arith, lt))

  module _ (test : A → Bool) (xs : List A) (i : ℕ) (within : i < length xs) where
    at-test : (b : Bool) → is_some_and test (slice_get xs i) ≡ b → test (at-place xs i within).0 ≡ b
    at-test b h = sym (ap (is_some_and test) (at-place xs i within).1) ∙ h

    pub find-later : is_some_and test (slice_get xs i) ≡ false → find test (drop (i + 1) xs) ≡ find test (drop i xs)
    find-later h = let here = at-place xs i within in sym (ap (find test) here.2 ∙ ap (λ b. cond b (Some here.0) (find test (drop (i + 1) xs))) (at-test false h))

    pub find-here : is_some_and test (slice_get xs i) ≡ true → find test (drop i xs) ≡ slice_get xs i
    find-here h = let here = at-place xs i within in ap (find test) here.2 ∙ ap (λ b. cond b (Some here.0) (find test (drop (i + 1) xs))) (at-test true h) ∙ sym here.1

    pub any-later : is_some_and test (slice_get xs i) ≡ false → list_any test (drop (i + 1) xs) ≡ list_any test (drop i xs)
    any-later h = let here = at-place xs i within in sym (ap (list_any test) here.2 ∙ ap (λ b. b || list_any test (drop (i + 1) xs)) (at-test false h))

    pub any-here : is_some_and test (slice_get xs i) ≡ true → list_any test (drop i xs) ≡ true
    any-here h = let here = at-place xs i within in ap (list_any test) here.2 ∙ ap (λ b. b || list_any test (drop (i + 1) xs)) (at-test true h)

-- two lists of texts
module _ (xs ys : List (List ℕ)) (i : ℕ) (one : i < length xs) (other : i < length ys) where
  both : (b : Bool) → is_some_and (λ a. is_some_and (bytes_eq a) (slice_get ys i)) (slice_get xs i) ≡ b → pointwise bytes_eq (drop i xs) (drop i ys) ≡ (b && pointwise bytes_eq (drop (i + 1) xs) (drop (i + 1) ys))
  both b h = grind (arith, (at-place ys i other), (at-place xs i one))

  pub equal-later : is_some_and (λ a. is_some_and (bytes_eq a) (slice_get ys i)) (slice_get xs i) ≡ true → pointwise bytes_eq (drop (i + 1) xs) (drop (i + 1) ys) ≡ pointwise bytes_eq (drop i xs) (drop i ys)
  equal-later h = sym (both true h)

  pub differs-here : is_some_and (λ a. is_some_and (bytes_eq a) (slice_get ys i)) (slice_get xs i) ≡ false → pointwise bytes_eq (drop i xs) (drop i ys) ≡ false
  differs-here h = both false h
