use Rattle.schedule_orders.specs.Examples.{of_overlapping, of_stopped, of_others, of_withheld_files, of_needs, of_plans}
use Rattle.schedule_orders.proofs.laws.worked_histories.Goals as goal

pub returns : goal.returns
returns c = record {
  overlapping = of_overlapping;
  stopped = of_stopped;
  others = of_others;
  withheld = of_withheld_files;
  needs = of_needs;
  plans = of_plans;
}
