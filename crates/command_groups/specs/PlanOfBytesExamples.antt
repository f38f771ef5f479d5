-- Dry runs of which plans are worked out by hand, from their bytes on.
use Rattle.std.specs.Prelude.{ℕ, List, [], ◌∷◌, Option, None, Result, codes}
use Rattle.texts.specs.declared.fault.Fault.{Fault}
use Rattle.compilers.specs.declared.compiler.NvccHostCompiler.TheVariants.{Gcc}
use Rattle.compilers.specs.declared.plans.plan.Plan.{Plan}
use Rattle.dry_runs.specs.declared.limit.LimitedFault.{LimitedFault}
use Rattle.dry_runs.specs.FirstDir.{first_dir}
use Rattle.canonical_names.specs.Generated.{standard_suffixes}
use Rattle.command_groups.specs.PlanExamples.{setting, plan_with, compiles}
use Rattle.command_groups.specs.PlanOfBytes.{planning_of}
use Rattle.command_groups.specs.PlanWithin.{planning_within}

-- two dry runs in the setting of the examples, with a keep directory or none
abbrev pub planned_with : Option (List ℕ) → List ℕ → List ℕ → Result Plan Fault
planned_with keep_dir first second = planning_of standard_suffixes keep_dir (setting Gcc (codes "-c")) first_dir first second

abbrev pub planned : List ℕ → List ℕ → Result Plan Fault
planned first second = planned_with None first second

-- one dry run as both
abbrev pub planned_twice : List ℕ → Result Plan Fault
planned_twice run = planned run run

-- two dry runs within a limit
abbrev pub planned_within : ℕ → List ℕ → List ℕ → Result Plan LimitedFault
planned_within limit first second = planning_within limit standard_suffixes None (setting Gcc (codes "-c")) first_dir first second

-- a dry run that counts 8,222 bytes: `PATH` and `/b` eight, `/b/gcc`, `-D__NVCC__` and `x.i` 22, and each line 4,096 more
abbrev pub host_run : List ℕ
host_run = codes "#$ PATH=/b\n#$ gcc -D__NVCC__ x.i\n"

abbrev pub host_plan : Plan
host_plan = plan_with ([] ∷ (compiles (codes "/b/gcc") (codes "-D__NVCC__ x.i") ∷ []) ∷ []) []
