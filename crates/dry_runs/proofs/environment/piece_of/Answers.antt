use Rattle.dry_runs.proofs.ExpansionLemmas.{replaced-reference, replaced-dollar}
use Rattle.dry_runs.proofs.environment.piece_of.Goals as goal

pub returns-in-Some-clause-cut : goal.returns-in-Some-clause-cut
returns-in-Some-clause-cut c = replaced-reference c.args.name.now c.args.value.now c.args.after.now c.in-Some.behind.now c.in-Some.ensures.rest

pub returns-in-None-clause-cut : goal.returns-in-None-clause-cut
returns-in-None-clause-cut c = replaced-dollar c.args.name.now c.args.value.now c.args.after.now c.in-None.ensures.rest
