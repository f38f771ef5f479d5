use Rattle.placed_commands.proofs.PlaceLemmas.{keeps-count, changes-ends, keeps-steps, keeps-plan-steps}
use Rattle.placed_commands.proofs.laws.places.Goals as goal

pub returns : goal.returns
returns c = record {
  count = keeps-count;
  ends = changes-ends;
  steps = keeps-steps;
  plan = keeps-plan-steps;
}
