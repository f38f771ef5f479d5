use Rattle.std.proofs.Common.{◌∙◌}
use Rattle.texts.proofs.ListLemmas.{pointwise-map}
use Rattle.compilers.proofs.outputs.OutputsPartialEq.eq.Goals as goal

pub returns : goal.returns
returns c = rw (← c.self.view_is, ← c.other.view_is) (c.eq.ensures ∙ pointwise-map _ (λ e. (e.0.now, e.1)) c.self.inside.files.entries c.other.inside.files.entries)
