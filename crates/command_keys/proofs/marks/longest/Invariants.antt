use Rattle.std.proofs.Common.{◌≡◌, drop, fold, map}
use Rattle.command_keys.specs.Keys.{shown}
use Rattle.command_keys.specs.Marks.{longest, with_longer}
use Rattle.command_keys.proofs.marks.longest.Given as goal

abbrev pub invariant-loop-root : goal.invariant-loop-root
invariant-loop-root l = fold (with_longer l.text) l.most (map shown (drop l.root-index l.roots)) ≡ longest l.text (map shown l.roots)
