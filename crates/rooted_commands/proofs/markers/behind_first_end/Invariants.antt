use Rattle.std.proofs.Common.{◌≡◌, length}
use Rattle.rooted_commands.specs.Markers as spec
use Rattle.rooted_commands.proofs.markers.behind_first_end.Given as goal

abbrev pub invariant-loop-others : goal.invariant-loop-others
invariant-loop-others l = spec.behind_first_end l.delim l.rest ≡ spec.behind_first_end l.delim l.text

abbrev pub decreases-loop-others : goal.decreases-loop-others
decreases-loop-others l = length l.rest
