use Rattle.command_groups.proofs.PlanLemmas.{readable_runs_are_planned, planned_runs_are_readable, first_run_is_refused, second_run_is_refused, planned_commands_have_one_fate, parsed_runs_are_planned}
use Rattle.command_groups.proofs.laws.planning.Goals as goal

pub returns : goal.returns
returns c = record {
  readable_are_planned = readable_runs_are_planned;
  planned_are_readable = planned_runs_are_readable;
  first_is_refused = first_run_is_refused;
  second_is_refused = second_run_is_refused;
  one_fate = planned_commands_have_one_fate;
  parsed_are_planned = parsed_runs_are_planned;
}
