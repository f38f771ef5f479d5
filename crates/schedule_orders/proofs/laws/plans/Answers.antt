use Rattle.command_files.specs.PlanNeeds.{plan_records}
use Rattle.schedule_orders.proofs.PlanLemmas.{plan_holds, is_part, not_final, plans_hold}
use Rattle.schedule_orders.proofs.laws.plans.Goals as goal

pub returns : goal.returns
returns c = record {
  one = plan_holds;
  others = λ plan parts effects are stay i h many. stay i (is_part (plan_records plan) parts i h) (not_final plan parts i are (is_part (plan_records plan) parts i h) many);
  several = plans_hold;
}
