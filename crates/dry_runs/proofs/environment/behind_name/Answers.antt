use Rattle.texts.proofs.RestLemmas.{rest_after-stripped}
use Rattle.dry_runs.proofs.environment.behind_name.Goals as goal

pub returns-clause-rest : goal.returns-clause-rest
returns-clause-rest c = rest_after-stripped _ _ _ c.strip_prefix.ensures.cases
