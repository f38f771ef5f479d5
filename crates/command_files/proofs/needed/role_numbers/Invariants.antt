use Rattle.std.proofs.Common.{◌≡◌, ◌++◌, drop}
use Rattle.command_files.specs.Order.{numbers_where}
use Rattle.command_files.specs.PlanNeeds.{role_needs}
use Rattle.command_files.specs.Touched.{role_numbers}
use Rattle.command_files.proofs.needed.role_numbers.Given as goal

-- the numbers so far, and those of the commands that are left, are all
abbrev pub invariant-loop-number : goal.invariant-loop-number
invariant-loop-number l = l.numbers.items ++ numbers_where (λ e. role_needs l.role e.role) l.number (drop l.number l.steps) ≡ role_numbers l.role l.steps
