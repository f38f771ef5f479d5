use Rattle.std.proofs.Common.{◌≡◌, map, drop}
use Rattle.std.specs.List.{position_from}
use Rattle.command_keys.specs.Keys.{shown}
use Rattle.command_keys.specs.Marks.{begins_with_all, root_at}
use Rattle.command_keys.proofs.marks.root_at.Given as goal

abbrev pub invariant-loop-number : goal.invariant-loop-number
invariant-loop-number l = position_from (begins_with_all l.text l.most) l.number (map shown (drop l.number l.roots)) ≡ root_at (map shown l.roots) l.text
