use Rattle.std.proofs.Common.{◌≡◌, ◌+◌, drop}
use Rattle.rooted_commands.specs.Markers as spec
use Rattle.rooted_commands.proofs.markers.line_length.Given as goal

abbrev pub invariant-loop-place : goal.invariant-loop-place
invariant-loop-place l = l.place + spec.line_length (drop l.place l.text) ≡ spec.line_length l.text
