use Rattle.std.proofs.Common.{◌∙◌, vec_items}
use Rattle.texts.proofs.ListLemmas.{pointwise-map}
use Rattle.compilers.proofs.plans.plan.GroupsPartialEq.eq.Goals as goal

pub returns : goal.returns
returns c = rw (← c.as_slice.ensures, ← c.as_slice-2.ensures) (c.eq.ensures ∙ pointwise-map _ vec_items c.as_slice.result.now c.as_slice-2.result.now)
