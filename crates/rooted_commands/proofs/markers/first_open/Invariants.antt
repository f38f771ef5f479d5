use Rattle.std.proofs.Common.{◌≡◌, length}
use Rattle.rooted_commands.specs.Markers as spec
use Rattle.rooted_commands.proofs.markers.first_open.Given as goal

abbrev pub invariant-loop-others : goal.invariant-loop-others
invariant-loop-others l = spec.first_open l.rest ≡ spec.first_open l.line

abbrev pub decreases-loop-others : goal.decreases-loop-others
decreases-loop-others l = length l.rest
