use Rattle.std.proofs.Common.{◌≡◌, ◌++◌, map, length}
use Rattle.command_keys.specs.Keys.{key_of_text, shown}
use Rattle.command_keys.proofs.marks.push_text.Given as goal

abbrev pub invariant-loop-part : goal.invariant-loop-part
invariant-loop-part l = l.key.items ++ key_of_text (map shown l.roots) (l.rest, l.end) ≡ l.initial.key.items ++ key_of_text (map shown l.roots) (l.text, l.end)

abbrev pub decreases-loop-part : goal.decreases-loop-part
decreases-loop-part l = length l.rest
