use Rattle.std.proofs.Common.{◌≡◌, map, drop}
use Rattle.texts.specs.Variables.{pair_of}
use Rattle.plan_texts.specs.Judging.{holds_variables}
use Rattle.plan_texts.proofs.judging.holds_variables.Given as goal

abbrev pub invariant-loop-pair : goal.invariant-loop-pair
invariant-loop-pair l = holds_variables l.format (map pair_of (drop l.pair-index l.variables)) ≡ holds_variables l.format (map pair_of l.variables)
