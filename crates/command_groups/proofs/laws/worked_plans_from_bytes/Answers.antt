use Rattle.std.proofs.Common.{refl}
use Rattle.compilers.specs.OneKernel as bytes
use Rattle.canonical_names.specs.AlikeExamples.{one_kernel_is_alike}
use Rattle.command_groups.specs.PlanExamples.{path_set}
use Rattle.dry_runs.specs.Computing.{dry_runs_compute}
use Rattle.command_groups.proofs.laws.worked_plans_from_bytes.Goals as goal

pub returns : goal.returns
unfolding dry_runs_compute
returns c = record {
  one_kernel_from_bytes = refl;
  other_names_from_bytes = refl;
  other_names_are_alike = record {
    one_says = (bytes.one_kernel_commands, path_set);
    other_says = (bytes.one_kernel_elsewhere_commands, path_set);
    one_is_read = refl;
    other_is_read = refl;
    like = record { one_is_clean = refl; other_is_clean = refl; alike = one_kernel_is_alike };
  };
  temporary_names_from_bytes = refl;
  kept_names_from_bytes = refl;
  nothing_from_bytes = refl;
  host_code_from_bytes = refl;
  second_run_is_bad = refl;
  first_run_is_bad = refl;
  output_with_a_slash_from_bytes = refl;
  nameless_from_bytes = refl;
}
