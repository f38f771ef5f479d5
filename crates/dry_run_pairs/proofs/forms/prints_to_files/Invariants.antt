use Rattle.std.proofs.Common.{◌≡◌, length}
use Rattle.dry_run_pairs.specs.Forms as spec
use Rattle.dry_run_pairs.proofs.forms.prints_to_files.Given as goal

abbrev pub invariant-loop-line : goal.invariant-loop-line
invariant-loop-line l = spec.prints_to_files l.rest ≡ spec.prints_to_files l.run

abbrev pub decreases-loop-line : goal.decreases-loop-line
decreases-loop-line l = length l.rest
