use Rattle.std.proofs.Common.{◌≡◌, map, drop}
use Rattle.std.specs.List.{list_all}
use Rattle.texts.specs.Variables.{pair_of}
use Rattle.plan_texts.specs.Judging.{is_for_env}
use Rattle.plan_texts.proofs.judging.are_names.Given as goal

abbrev pub invariant-loop-pair : goal.invariant-loop-pair
invariant-loop-pair l = list_all (λ p. is_for_env p.0) (map pair_of (drop l.pair-index l.variables)) ≡ list_all (λ p. is_for_env p.0) (map pair_of l.variables)
