use Rattle.command_groups.proofs.MergeLemmas.{merged_is_in_order, merged_are_the_selected}
use Rattle.command_groups.proofs.laws.merge.Goals as goal

pub returns : goal.returns
returns c = record {
  in_order = merged_is_in_order;
  selected = merged_are_the_selected;
}
