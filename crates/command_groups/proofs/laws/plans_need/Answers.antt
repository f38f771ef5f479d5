use Rattle.command_groups.proofs.PlanNeedLemmas.{first_must_be_clean, second_must_be_clean, map_must_be_one_to_one, map_must_keep_folders, words_must_be_renamed, variables_must_be_equal}
use Rattle.command_groups.proofs.laws.plans_need.Goals as goal

pub returns : goal.returns
returns c = record {
  first_clean = first_must_be_clean;
  second_clean = second_must_be_clean;
  one_to_one = map_must_be_one_to_one;
  folder = map_must_keep_folders;
  no_keep_directory = words_must_be_renamed;
  variables = variables_must_be_equal;
}
