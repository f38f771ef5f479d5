use Rattle.std.proofs.Common.{◌≡◌, ◌++◌, map, drop}
use Rattle.command_keys.specs.Keys.{shown}
use Rattle.command_keys.proofs.counting.lent.Given as goal

abbrev pub invariant-loop-text : goal.invariant-loop-text
invariant-loop-text l = map shown l.lent.items ++ drop l.text-index l.texts ≡ l.texts
