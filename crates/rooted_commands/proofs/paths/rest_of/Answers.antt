use Rattle.texts.proofs.RestLemmas.{rest_after-stripped}
use Rattle.rooted_commands.proofs.paths.rest_of.Goals as goal

pub returns : goal.returns
returns c = rest_after-stripped _ _ _ c.strip_prefix.ensures.cases
