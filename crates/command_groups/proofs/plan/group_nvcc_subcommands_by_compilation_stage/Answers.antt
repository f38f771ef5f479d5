use Rattle.command_groups.proofs.PlanLemmas.{planned_alone}
use Rattle.command_groups.proofs.plan.group_nvcc_subcommands_by_compilation_stage.Goals as goal

pub returns : goal.returns
returns g c = planned_alone _ _ _ _ _ c.plan_with_origins.result c.plan_alone.result c.plan_alone.ensures c.plan_with_origins.ensures
