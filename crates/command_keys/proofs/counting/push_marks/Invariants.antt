use Rattle.std.proofs.Common.{◌≡◌, ◌++◌}
use Rattle.command_keys.specs.CountedWords.{marks}
use Rattle.command_keys.proofs.counting.push_marks.Given as goal

abbrev pub invariant-loop-left : goal.invariant-loop-left
invariant-loop-left l = l.text.items ++ marks l.left ≡ l.initial.text.items ++ marks l.number

abbrev pub decreases-loop-left : goal.decreases-loop-left
decreases-loop-left l = l.left
