use Rattle.command_groups.proofs.PlanLemmas.{resolved_rises}
use Rattle.command_groups.proofs.plan.resolve.Goals as goal

pub returns-clause-rises : goal.returns-clause-rises
returns-clause-rises g c = resolved_rises (g.W.Which.answer c.args.which.now) c.args.cwd.now c.args.run c.resolved.result c.requires c.resolved.ensures
