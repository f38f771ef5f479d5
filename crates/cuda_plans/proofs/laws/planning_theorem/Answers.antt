use Rattle.command_groups.proofs.PlanLemmas.{alike_texts_have_one_plan, readable_runs_are_planned, planned_runs_are_readable, first_run_is_refused, second_run_is_refused, planned_commands_have_one_fate}
use Rattle.device_lines.proofs.RereadLaw.{cicc-lines_reread, ptxas-lines_reread, cudafe-lines_reread}
use Rattle.cuda_plans.proofs.laws.planning_theorem.Goals as goal

pub returns : goal.returns
returns c = record {
  readable_are_planned = readable_runs_are_planned;
  planned_are_readable = planned_runs_are_readable;
  first_is_refused = first_run_is_refused;
  second_is_refused = second_run_is_refused;
  one_fate = planned_commands_have_one_fate;
  alike_are_planned_alike = alike_texts_have_one_plan;
  cicc_rereads = cicc-lines_reread;
  ptxas_rereads = ptxas-lines_reread;
  cudafe_rereads = cudafe-lines_reread;
}
