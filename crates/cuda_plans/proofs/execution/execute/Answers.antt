use Rattle.cuda_plans.specs.NvccPlan.{planned}
use Rattle.cuda_plans.proofs.RunningLemmas.{nothing-ran}
use Rattle.cuda_plans.proofs.execution.execute.Goals as goal

pub returns-in_err-plan : goal.returns-in_err-plan
returns-in_err-plan g c =
    let whole = planned c.args.call.now c.args.suffixes.now (g.W.Which.answer c.args.which.now) c.args.dry1.now c.args.dry2.now in
    nothing-ran (g.R.Runner.log c.args.runner.now) c.from_residual.result c.in_err-plan.field-0.0 whole c.args.call.now.num_parallel c.from_residual.ensures.1 c.in_err-plan.ensures
