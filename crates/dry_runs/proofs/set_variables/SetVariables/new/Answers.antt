use Rattle.std.proofs.Common.{◌∙◌, [], ap, sym, map}
use Rattle.texts.specs.Variables.{pair_of}
use Rattle.dry_runs.specs.Places.{are_plain, places_from}
use Rattle.dry_runs.proofs.set_variables.SetVariables.new.Goals as goal

pub invariant_of-result : goal.invariant_of-result
invariant_of-result c = (c.new-2.ensures ∙ (λ i start. []) ∙ ap (λ pairs. places_from 0 (map pair_of pairs)) (sym c.new.ensures.items), ap (λ pairs. are_plain (map pair_of pairs)) (sym c.new.ensures.items))
