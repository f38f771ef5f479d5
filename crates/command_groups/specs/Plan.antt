-- The plan of two dry runs.
use Rattle.std.specs.Prelude.{ℕ, List, [], ◌∷◌, ◌++◌, Bool, true, false, ◌==◌, if◌then◌else◌, Option, Some, None, map, filter, filter_map, codes}
use Rattle.compilers.specs.declared.compiler.NvccHostCompiler.{NvccHostCompiler}
use Rattle.compilers.specs.declared.plans.plan.NvccGeneratedSubcommand.{NvccGeneratedSubcommand}
use Rattle.compilers.specs.declared.plans.plan.Dropped.{Dropped}
use Rattle.compilers.specs.declared.plans.plan.Plan.{Plan}
use Rattle.compilers.specs.declared.plans.plan.Reason.{Reason}
use Rattle.compilers.specs.CommandLines.{CommandLine}
use Rattle.command_groups.specs.Merge.{MergedCommand, merged}
use Rattle.dry_runs.specs.Environment.{with_variables}
use Rattle.command_groups.specs.Stage.{Stage, host_compiling, StagedCommand, staged, cacheable_mark}
use Rattle.command_groups.specs.Fate.{Fate, front, final, ungrouped, PlacedCommand, is_device, opened_names, fates}

-- what a plan is made for: the working directory, the folder of temporary files, the compilation flag, the host compiler and
-- the environment
pub record PlanSetting : Type 0 where
  pub cwd : List ℕ
  pub tmp : List ℕ
  pub flag : List ℕ
  pub host_compiler : NvccHostCompiler
  pub env_vars : List (List ℕ × List ℕ)

-- The environment of a stage. The last host compile gets one more pair at the end. The compiler doesn't look at it: sccache's server
-- does, and counts this compilation in its statistics as CUDA, though its line is one of C++.
abbrev pub environment_of : Stage → List (List ℕ × List ℕ) → List (List ℕ × List ℕ)
environment_of host_compiling environment = environment ++ (codes "__SCCACHE_THIS_IS_A_CUDA_COMPILATION__", []) ∷ []
environment_of _ environment = environment

-- a command as a group holds it: nvcc's own tools, which are of the first run, run among the temporary files, all others in the working
-- directory
abbrev pub subcommand_of : PlanSetting → StagedCommand → NvccGeneratedSubcommand
subcommand_of s c = record {
  exe = c.command.program;
  args = c.command.words;
  cwd = if c.command.run == 1 then s.tmp else s.cwd;
  env_vars = environment_of c.stage s.env_vars;
  cacheable = cacheable_mark c.stage;
}

-- the commands whose fate passes a test, in order
abbrev pub of_fate : (Fate → Bool) → List PlacedCommand → List PlacedCommand
of_fate test commands = filter (λ p. test p.fate) commands

-- whether a fate is the front group, and whether it is the final group
abbrev pub is_front : Fate → Bool
is_front front = true
is_front _ = false

abbrev pub is_final : Fate → Bool
is_final final = true
is_final _ = false

-- a command that stands in no group for a reason, and one with a fate
abbrev pub dropped_for : Reason → MergedCommand → Dropped
dropped_for reason c = record { line = c.line; run = c.run; exe = c.program; args = c.words; reason = reason }

abbrev pub dropped_by : Fate → MergedCommand → Option Dropped
dropped_by (ungrouped reason) c = Some (dropped_for reason c)
dropped_by _ c = None

-- what there is of each command whose fate passes a test
abbrev pub elements : {X : Type 0} → (StagedCommand → X) → (Fate → Bool) → List PlacedCommand → List X
elements of test commands = map (λ p. of p.staged) (of_fate test commands)

-- the groups of what there is of each command: the front group, a device group for each opened name, and the final group
abbrev pub groups_by : {X : Type 0} → (StagedCommand → X) → List (List ℕ) → List PlacedCommand → List (List X)
groups_by of names commands =
    elements of is_front commands ∷ (map (λ name. elements of (is_device name) commands) names ++ elements of is_final commands ∷ [])

-- the plan of staged commands: each is in the group of its fate, or dropped
abbrev pub plan_of_staged : PlanSetting → List StagedCommand → Plan
plan_of_staged s commands = record {
  groups = groups_by (subcommand_of s) (opened_names commands) (fates commands);
  dropped = filter_map (λ p. dropped_by p.fate p.staged.command) (fates commands);
}

-- the staged commands of two runs
abbrev pub staged_commands : PlanSetting → List CommandLine → List CommandLine → List StagedCommand
staged_commands s first second = map (staged s.host_compiler s.flag) (merged first second)

-- the setting of which the environment has a run's environment lines folded in
abbrev pub with_environment : PlanSetting → List (List ℕ × List ℕ) → PlanSetting
with_environment s variables = record s { env_vars = with_variables s.env_vars variables }

-- the plan of the commands of two runs, their words renamed where they are to be, and of the environment lines of the first
abbrev pub plan_of : PlanSetting → List (List ℕ × List ℕ) → List CommandLine → List CommandLine → Plan
plan_of s variables first second = plan_of_staged (with_environment s variables) (staged_commands s first second)
