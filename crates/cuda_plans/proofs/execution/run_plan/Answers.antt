use Rattle.std.proofs.Common.{sym, ◌∙◌}
use Rattle.cuda_plans.proofs.ScheduleLemmas.{outcome-is}
use Rattle.cuda_plans.proofs.RunningLemmas.{success-is}
use Rattle.cuda_plans.proofs.execution.run_plan.Goals as goal

pub returns-then-success : goal.returns-then-success
returns-then-success g c =
    let ran = c.in_ok-output.ensures in
    (ran.0, ran.1, (ran.2.0, outcome-is ran.0 c.in_ok-output.output _ ran.2.1 (sym (success-is c.success.result c.in_ok-output.output.status c.success.ensures) ∙ c.if-success.true)))

pub returns-else-success : goal.returns-else-success
returns-else-success g c =
    let ran = c.in_ok-output.ensures in
    (ran.0, ran.1, (ran.2.0, outcome-is ran.0 c.in_ok-output.output _ ran.2.1 (sym (success-is c.success.result c.in_ok-output.output.status c.success.ensures) ∙ c.if-success.false)))
