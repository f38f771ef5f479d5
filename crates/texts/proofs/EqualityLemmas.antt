-- `==` says whether two values are equal: truth values, lists, pairs, environments and optional values.
use Rattle.std.proofs.Common.{◌≡◌, ℕ, Bool, true, false, ◌&&◌, List, nat_eq, refl, ap, Some, None, arith}
use Rattle.std.specs.Option.{option_eq}
use Rattle.std.specs.Bool.{Decides, beq}
use Rattle.std.specs.Cmp.Lexicographic.{pointwise}
use Rattle.std.specs.Ordering.{on, eq_of_both}
use Rattle.std.proofs.lemmas.Bool.Decides.{Decides-and, Decides-like}
use Rattle.std.proofs.lemmas.Slice.Eq.{bytes_eq-Decides, slice_eq-Decides}
use Rattle.texts.specs.Equality.{TellsEqual}

-- two truth values
pub bools : (a b : Bool) → Decides (beq a b) (a ≡ b)
bools a b = grind arith

-- lists, by their elements
pub lists : {A : Type 0} (E : A → A → Bool) → TellsEqual E → TellsEqual (pointwise E)
lists E h a b = slice_eq-Decides h a b (pointwise E a b) refl

-- pairs, by both parts
pub pairs : {A B : Type 0} (E : A → A → Bool) (F : B → B → Bool) → TellsEqual E → TellsEqual F → TellsEqual (eq_of_both (on (λ (p : A × B). p.0) E) (on (λ (p : A × B). p.1) F))
pairs E F h k p q = grind (arith, Decides-like, Decides-and)

-- the test of environments
abbrev pub same_variables : List (List ℕ × List ℕ) → List (List ℕ × List ℕ) → Bool
same_variables = pointwise (eq_of_both (on (λ (p : List ℕ × List ℕ). p.0) (pointwise nat_eq)) (on (λ (p : List ℕ × List ℕ). p.1) (pointwise nat_eq)))

pub variables : TellsEqual same_variables
variables = lists (eq_of_both (on (λ (p : List ℕ × List ℕ). p.0) (pointwise nat_eq)) (on (λ (p : List ℕ × List ℕ). p.1) (pointwise nat_eq))) (pairs (pointwise nat_eq) (pointwise nat_eq) bytes_eq-Decides bytes_eq-Decides)

-- optional values
pub options : {A : Type 0} (E : A → A → Bool) → TellsEqual E → TellsEqual (option_eq E)
options E h k e = grind (arith, Decides-like)
