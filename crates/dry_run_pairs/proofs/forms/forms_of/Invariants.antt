use Rattle.std.proofs.Common.{◌≡◌, ◌++◌, length}
use Rattle.dry_run_pairs.specs.Forms as spec
use Rattle.dry_run_pairs.proofs.forms.forms_of.Given as goal

abbrev pub invariant-loop-line : goal.invariant-loop-line
invariant-loop-line l =
    l.forms.items ++ spec.forms_in (spec.call_of l.call) (spec.folders_of (spec.call_of l.call)) l.rest ≡ spec.forms_of (spec.call_of l.call) l.run

abbrev pub decreases-loop-line : goal.decreases-loop-line
decreases-loop-line l = length l.rest
