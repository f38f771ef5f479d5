use Rattle.std.proofs.Common.{refl}
use Rattle.dry_runs.specs.Computing.{dry_runs_compute}
use Rattle.dry_runs.proofs.laws.worked_limits.Goals as goal

pub returns : goal.returns
unfolding dry_runs_compute
returns c = record {
  all_that_is_held_counts = (refl, refl, refl);
  texts_on_the_way_count = (refl, refl);
  first_of_both_decides = (refl, refl);
  unmarked_lines_are_free = refl;
}
