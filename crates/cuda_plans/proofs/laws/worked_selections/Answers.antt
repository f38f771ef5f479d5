use Rattle.std.proofs.Common.{refl}
use Rattle.dry_runs.specs.Computing.{dry_runs_compute}
use Rattle.cuda_plans.proofs.laws.worked_selections.Goals as goal

pub returns : goal.returns
unfolding dry_runs_compute
returns c = record {
  one_of_one_kernel = refl;
  folded_behind_one_kernel = refl;
  all_names_count = refl;
  names_stay = refl;
  nothing_is_selected = refl;
  later_line_sets_too = refl;
  bad_run_is_refused = refl;
}
