use Rattle.std.proofs.Common.{◌∙◌, ap}
use Rattle.texts.specs.Lists.{rest_after}
use Rattle.texts.proofs.RestLemmas.{rest_after-stripped}
use Rattle.early_starts.proofs.split.embedded_in.Goals as goal

pub returns : goal.returns
returns c = rest_after-stripped _ _ _ c.strip_prefix.ensures.cases ∙ ap (λ option. rest_after option c.args.word.now) c.embedded_option.ensures
