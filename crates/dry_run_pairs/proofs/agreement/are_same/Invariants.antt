use Rattle.std.proofs.Common.{◌≡◌, drop}
use Rattle.dry_run_pairs.specs.Agreement as spec
use Rattle.dry_run_pairs.proofs.agreement.are_same.Given as goal

abbrev pub invariant-loop-line : goal.invariant-loop-line
invariant-loop-line l = spec.are_same (drop l.line-index l.lines) l.others.items ≡ spec.are_same l.lines l.initial.others.items
