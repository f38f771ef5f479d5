use Rattle.canonical_names.proofs.NeedLemmas.{first_must_be_clean, second_must_be_clean, map_must_be_one_to_one, map_must_keep_folders, one_run_first_clean, one_run_second_clean, renamed_run_must_be_clean}
use Rattle.canonical_names.proofs.laws.renaming_needs.Goals as goal

pub returns : goal.returns
returns c = record {
  agree_first_clean = first_must_be_clean;
  agree_second_clean = second_must_be_clean;
  agree_one_to_one = map_must_be_one_to_one;
  agree_folder = map_must_keep_folders;
  alike_first_clean = one_run_first_clean;
  alike_second_clean = one_run_second_clean;
  once_clean = renamed_run_must_be_clean;
}
