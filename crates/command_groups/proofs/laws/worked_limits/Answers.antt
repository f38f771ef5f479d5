use Rattle.std.proofs.Common.{refl}
use Rattle.dry_runs.specs.Computing.{dry_runs_compute}
use Rattle.command_groups.proofs.laws.worked_limits.Goals as goal

pub returns : goal.returns
unfolding dry_runs_compute
returns c = record {
  each_run_has_the_limit = refl;
  first_run_is_too_long = refl;
  second_run_is_too_long = refl;
  first_run_decides = refl;
}
