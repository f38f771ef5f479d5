use Rattle.std.proofs.Common.{◌≡◌, codes, length}
use Rattle.std.specs.List.{list_any}
use Rattle.std.specs.Str.Lines.{lines}
use Rattle.dry_run_pairs.specs.Remarks as spec
use Rattle.dry_run_pairs.proofs.remarks.one_runs_cudafe.Given as goal

abbrev pub invariant-loop-line : goal.invariant-loop-line
invariant-loop-line l = list_any (spec.runs (codes "cudafe++")) (lines l.rest) ≡ list_any (spec.runs (codes "cudafe++")) (lines l.run)

abbrev pub decreases-loop-line : goal.decreases-loop-line
decreases-loop-line l = length l.rest
