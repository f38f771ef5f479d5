use Rattle.std.proofs.Common.{refl}
use Rattle.dry_runs.specs.Computing.{dry_runs_compute}
use Rattle.dry_runs.proofs.laws.worked_runs.Goals as goal

pub returns : goal.returns
unfolding dry_runs_compute
returns c = record {
  one_kernel_is_read = refl;
  last_line_needs_no_newline = refl;
  nothing_is_read = (refl, refl);
  unmarked_line_is_not_text = refl;
  quote_is_open = refl;
  comment_is_no_command = (refl, refl);
  no_path_is_set = (refl, refl, refl);
  digit_makes_a_command = refl;
  path_is_empty = refl;
  first_bad_line_decides = (refl, refl, refl);
  programs_are_missing = refl;
  empty_program_is_looked_up = (refl, refl);
  reference_at_the_end_stays = refl;
  one_reference_expands_all = refl;
  letter_follows_a_reference = (refl, refl);
  first_value_is_expanded = refl;
  values_are_expanded_in_order = (refl, refl);
  first_path_counts = refl;
  other_names_are_read = (refl, refl);
  last_line_keeps_its_return = refl;
  byte_order_mark_unmarks = refl;
  values_are_kept_as_they_stand = refl;
  first_folder_is_empty = refl;
  folder_needs_a_path_too = refl;
  name_is_set_twice = refl;
  other_characters_end_a_name = refl;
  word_characters_go_on = refl;
}
