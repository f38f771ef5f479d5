use Rattle.std.proofs.Common.{◌≡◌, ◌++◌, map, drop}
use Rattle.texts.specs.Variables.{pair_of}
use Rattle.texts.proofs.variables.Variables.copy_of.Given as goal

abbrev pub invariant-loop-pair : goal.invariant-loop-pair
invariant-loop-pair l = map pair_of l.copy.items ++ map pair_of (drop l.pair-index l.pairs) ≡ map pair_of l.pairs
