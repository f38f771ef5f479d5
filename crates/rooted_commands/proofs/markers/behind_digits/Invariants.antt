use Rattle.std.proofs.Common.{◌≡◌, length}
use Rattle.rooted_commands.specs.Markers as spec
use Rattle.rooted_commands.proofs.markers.behind_digits.Given as goal

abbrev pub invariant-loop-byte : goal.invariant-loop-byte
invariant-loop-byte l = spec.behind_digits l.rest ≡ spec.behind_digits l.text

abbrev pub decreases-loop-byte : goal.decreases-loop-byte
decreases-loop-byte l = length l.rest
