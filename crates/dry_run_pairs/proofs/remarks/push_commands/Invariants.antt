use Rattle.std.proofs.Common.{◌≡◌, ◌++◌, length}
use Rattle.dry_run_pairs.specs.Lines.{is_marked}
use Rattle.dry_run_pairs.specs.Remarks as spec
use Rattle.dry_run_pairs.proofs.remarks.push_commands.Given as goal

abbrev pub invariant-loop-line : goal.invariant-loop-line
invariant-loop-line l = l.text.items ++ spec.lines_that is_marked l.rest ≡ l.initial.text.items ++ spec.lines_that is_marked l.run

abbrev pub decreases-loop-line : goal.decreases-loop-line
decreases-loop-line l = length l.rest
