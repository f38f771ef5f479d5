use Rattle.std.proofs.Common.{◌∙◌}
use Rattle.texts.proofs.ListLemmas.{pointwise-pairs}
use Rattle.texts.proofs.variables.VariablesPartialEq.eq.Goals as goal

pub returns : goal.returns
returns c = rw (← c.as_slice.ensures, ← c.as_slice-2.ensures) (c.eq.ensures ∙ pointwise-pairs c.as_slice.result.now c.as_slice-2.result.now)
