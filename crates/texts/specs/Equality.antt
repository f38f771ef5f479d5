-- What `==` says, and how texts and lists of words are compared.
use Rattle.std.specs.Prelude.{◌≡◌, ℕ, List, Bool, IsTrue, ◌↔◌, bytes_eq}
use Rattle.std.specs.Cmp.{IsPartialEquivalence, partial_equiv_from_equiv}
use Rattle.std.specs.Cmp.Lexicographic.{pointwise, lists_per, nat_list_eq_equiv}

-- a test of two values says whether they are equal
abbrev pub TellsEqual : {A : Type 0} → (A → A → Bool) → Type 0
TellsEqual {A} test = (a b : A) → IsTrue (test a b) ↔ (a ≡ b)

-- a test of two values says whether what is seen of them is equal
abbrev pub TellsEqualBy : {A B : Type 0} → (A → B) → (A → A → Bool) → Type 0
TellsEqualBy {A} view test = (a b : A) → IsTrue (test a b) ↔ (view a ≡ view b)

-- texts are compared byte by byte
pub bytes_law : IsPartialEquivalence bytes_eq
bytes_law = partial_equiv_from_equiv nat_list_eq_equiv

-- lists of words are compared word by word
abbrev pub words_eq : List (List ℕ) → List (List ℕ) → Bool
words_eq = pointwise bytes_eq

pub words_law : IsPartialEquivalence words_eq
words_law = lists_per bytes_law
