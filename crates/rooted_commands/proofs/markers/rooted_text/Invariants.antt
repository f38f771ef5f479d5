use Rattle.std.proofs.Common.{◌≡◌, ◌++◌, length}
use Rattle.rooted_commands.specs.Markers as spec
use Rattle.rooted_commands.proofs.markers.rooted_text.Given as goal

-- what is written so far, and what comes of the other lines, are all
abbrev pub invariant-loop-line : goal.invariant-loop-line
invariant-loop-line l = l.rooted.items ++ spec.rooted_lines l.root (spec.shown l.place) (spec.lines_of l.rest) ≡ spec.rooted_text l.root l.text

abbrev pub decreases-loop-line : goal.decreases-loop-line
decreases-loop-line l = length l.rest
