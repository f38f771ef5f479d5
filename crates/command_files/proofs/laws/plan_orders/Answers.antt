use Rattle.command_files.proofs.PlanOrderLemmas.{plan_orders_agree, plan_runs_agree, plan_order_is_one, final_has_one_place, records_suffice}
use Rattle.command_files.proofs.laws.plan_orders.Goals as goal

pub returns : goal.returns
returns c = record {
  agree = plan_orders_agree;
  runs = plan_runs_agree;
  own_order = plan_order_is_one;
  last = final_has_one_place;
  recorded = records_suffice;
}
