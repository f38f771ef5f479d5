use Rattle.std.proofs.Common.{◌≡◌, length}
use Rattle.dry_run_pairs.specs.Remarks as spec
use Rattle.dry_run_pairs.proofs.remarks.runs_devices_first.Given as goal

abbrev pub invariant-loop-line : goal.invariant-loop-line
invariant-loop-line l = spec.devices_first l.rest ≡ spec.devices_first l.run

abbrev pub decreases-loop-line : goal.decreases-loop-line
decreases-loop-line l = length l.rest
