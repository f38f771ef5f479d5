-- Where two lists first differ.
use Rattle.std.specs.Prelude.{◌≡◌, ℕ, zero, suc, List, [], ◌∷◌, Bool, if◌then◌else◌, Option, Some, None, codes, refl, bytes_eq}

-- the number of the first element that isn't the other list's, counted from `n`
abbrev pub first_other : {A : Type 0} → (A → A → Bool) → ℕ → List A → List A → Option ℕ
first_other same n [] [] = None
first_other same n [] (y ∷ ys) = Some n
first_other same n (x ∷ xs) [] = Some n
first_other same n (x ∷ xs) (y ∷ ys) = if same x y then first_other same (suc n) xs ys else Some n

-- the element with a number, if there is one
abbrev pub at : {A : Type 0} → ℕ → List A → Option A
at n [] = None
at zero (x ∷ xs) = Some x
at (suc n) (x ∷ xs) = at n xs

-- examples
pub second_word : first_other bytes_eq 0 (codes "gcc" ∷ codes "-O1" ∷ []) (codes "gcc" ∷ codes "-O2" ∷ []) ≡ Some 1
second_word = refl

pub one_word_more : first_other bytes_eq 0 (codes "gcc" ∷ []) (codes "gcc" ∷ codes "-O2" ∷ []) ≡ Some 1
one_word_more = refl

pub same_words : first_other bytes_eq 0 (codes "gcc" ∷ []) (codes "gcc" ∷ []) ≡ None
same_words = refl
