use Rattle.command_groups.proofs.FateLemmas.{each_has_one_fate, device_groups_begin_with_their_step, outer_groups_are_there}
use Rattle.command_groups.proofs.laws.fates.Goals as goal

pub returns : goal.returns
returns c = record {
  one_fate = each_has_one_fate;
  steps = device_groups_begin_with_their_step;
  outer = outer_groups_are_there;
}
