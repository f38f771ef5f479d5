use Rattle.dry_runs.proofs.ExpansionLemmas.{cut-once}
use Rattle.dry_runs.proofs.environment.parted.Goals as goal

pub returns-clause-cut : goal.returns-clause-cut
returns-clause-cut c = cut-once c.args.mark c.args.text.now c.split_once.result c.split_once.ensures.cases c.requires
