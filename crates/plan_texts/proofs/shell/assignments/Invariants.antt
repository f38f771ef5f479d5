use Rattle.std.proofs.Common.{◌≡◌, ◌++◌, map, drop}
use Rattle.texts.specs.Variables.{pair_of}
use Rattle.plan_texts.specs.CommandText.{assignment}
use Rattle.plan_texts.proofs.shell.assignments.Given as goal

abbrev pub invariant-loop-pair : goal.invariant-loop-pair
invariant-loop-pair l = l.words ++ map assignment (map pair_of (drop l.pair-index l.variables)) ≡ map assignment (map pair_of l.variables)
