use Rattle.std.proofs.Common.{ap, not, ◌∙◌}
use Rattle.texts.specs.Path.{lacks}
use Rattle.texts.proofs.PathLemmas.{lacks-by_search}
use Rattle.texts.proofs.text.is_bare.Goals as goal

pub returns : goal.returns
returns c = ap not c.contains.ensures.value ∙ (lacks-by_search 47 c.as_bytes.result.now ∙ ap (lacks 47) c.as_bytes.ensures.value)
