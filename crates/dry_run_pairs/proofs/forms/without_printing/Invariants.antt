use Rattle.std.proofs.Common.{◌≡◌, ◌++◌, take, drop}
use Rattle.dry_run_pairs.specs.Forms as spec
use Rattle.dry_run_pairs.proofs.forms.without_printing.Given as goal

abbrev pub invariant-loop-at : goal.invariant-loop-at
invariant-loop-at l = spec.without_printing l.line ≡ take l.at l.line ++ spec.without_printing (drop l.at l.line)
