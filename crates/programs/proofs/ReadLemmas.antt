-- Files that a program has read.
use Rattle.std.proofs.Common.{◌≡◌, ℕ, List, Option, Some, Result, inr, subst}
use Rattle.programs.specs.declared.stop.Stop.{Stop}
use Rattle.programs.specs.Operands.{PlanOf}
use Rattle.programs.specs.PlanText.{ReadsBoth}

-- a program that has read both files of a call goes on with their bytes
pub both_read : (holds : List ℕ → Option (List ℕ) → Type 0) (call : PlanOf) (Follows : List ℕ → List ℕ → Type 0)
    (answer : Result (Unit {0}) Stop) (before after : Option (List ℕ)) (bytes1 text1 bytes2 text2 : List ℕ) →
    holds call.dry1 (Some bytes1) → text1 ≡ bytes1 → holds call.dry2 (Some bytes2) → text2 ≡ bytes2 → Follows text1 text2 →
    ReadsBoth holds call Follows answer before after
both_read holds call Follows answer before after bytes1 text1 bytes2 text2 held1 same1 held2 same2 follows =
    inr (inr (bytes1, held1, inr (inr (bytes2, held2, subst (λ first. Follows first bytes2) same1 (subst (Follows text1) same2 follows)))))
