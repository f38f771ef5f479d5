use Rattle.std.proofs.Common.{◌≡◌, ◌∷◌, ◌++◌, ℕ, zero, suc, ◌-◌, ◌<◌, append_assoc, refl, arith}
use Rattle.std.proofs.lemmas.Grind.{common_steps}
use Rattle.command_keys.specs.CountedWords.{mark, marks}
use Rattle.command_keys.proofs.counting.push_marks.Goals as goal

marks-first : (n : ℕ) → 0 < n → marks n ≡ mark ∷ marks (n - 1)
marks-first zero some = absurd (omega (arith, some))
marks-first (suc n) some = grind arith

pub loop-left-preserved : goal.loop-left-preserved
loop-left-preserved c = grind (arith, common_steps, append_assoc, marks-first)
