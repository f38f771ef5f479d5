-- The plan of an nvcc call, by its two dry runs.
use Rattle.std.specs.Prelude.{ℕ, List, Result}
use Rattle.texts.specs.declared.fault.Fault.{Fault}
use Rattle.dry_runs.specs.DryRun.{LookUp}
use Rattle.compilers.specs.declared.plans.plan.Plan.{Plan}
use Rattle.command_groups.specs.Plan.{PlanSetting}
use Rattle.command_groups.specs.PlanOfBytes.{planning_of}
use Rattle.host_lines.specs.declared.nvcc.command.NvccCompileCommand.{NvccCompileCommand}

-- what a call is planned for
abbrev pub setting_of : NvccCompileCommand → PlanSetting
setting_of c = record { cwd = c.cwd; tmp = c.temp_dir; flag = c.compilation_flag; host_compiler = c.host_compiler; env_vars = c.env_vars }

-- the plan of a call by the bytes of its dry runs, with a look-up and the suffixes of generated files
abbrev pub planned : NvccCompileCommand → List (List ℕ) → LookUp → List ℕ → List ℕ → Result Plan Fault
planned c suffixes which first second = planning_of suffixes c.keep_dir (setting_of c) which first second
