use Rattle.std.proofs.Common.{refl}
use Rattle.dry_runs.specs.Computing.{dry_runs_compute}
use Rattle.dry_runs.proofs.lookup_laws.worked_lookups.Goals as goal

pub returns : goal.returns
unfolding dry_runs_compute
returns c = record {
  asked_in_order = refl;
  asked_expanded = refl;
  asked_before_a_bad_line = (refl, refl, refl, refl);
  asked_by_both = refl;
  asked_by_another_path = refl;
}
