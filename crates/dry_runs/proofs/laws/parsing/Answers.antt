use Rattle.std.proofs.Common.{refl}
use Rattle.dry_runs.specs.Computing.{dry_runs_compute}
use Rattle.dry_runs.proofs.ParsedLemmas.{parses-then-resolves}
use Rattle.dry_runs.proofs.laws.parsing.Goals as goal

pub returns : goal.returns
unfolding dry_runs_compute
returns c = record {
  composed = parses-then-resolves;
  commands_before_a_bad_line = refl;
  missing_program_is_first = (refl, refl, refl);
  path_counts = (refl, refl);
  each_run_has_the_limit = (refl, refl, refl);
}
