-- What two dry runs are planned as: a plan where both can be read, else why not.
use Rattle.std.specs.Prelude.{ℕ, List, Option, Some, None, Result, Ok, Err}
use Rattle.texts.specs.declared.fault.Fault.{Fault}
use Rattle.compilers.specs.declared.plans.plan.Plan.{Plan}
use Rattle.compilers.specs.CommandLines.{CommandLine}
use Rattle.dry_runs.specs.DryRun.{LookUp, dry_run_of}
use Rattle.dry_runs.specs.Environment.{Variable}
use Rattle.command_groups.specs.Plan.{PlanSetting, plan_of}
use Rattle.canonical_names.specs.Renaming.{renamed}

-- the commands of a run as they are planned: with canonical names, unless files are kept in a folder
abbrev pub named : List (List ℕ) → Option (List ℕ) → List CommandLine → List CommandLine
named suffixes None commands = renamed suffixes commands
named suffixes (Some keep_dir) commands = commands

-- the plan of two runs that can be read; else the fault of the first, or of the second where the first can be read
abbrev pub plan_or_fault : List (List ℕ) → Option (List ℕ) → PlanSetting →
    Result (List CommandLine × List Variable) Fault → Result (List CommandLine × List Variable) Fault →
    Result Plan Fault
plan_or_fault suffixes keep_dir s (Err fault) second = Err fault
plan_or_fault suffixes keep_dir s (Ok first) (Err fault) = Err fault
plan_or_fault suffixes keep_dir s (Ok first) (Ok second) = Ok (plan_of s first.1 (named suffixes keep_dir first.0) (named suffixes keep_dir second.0))

-- what the bytes of two dry runs are planned as; both are read with one look-up, from the working directory
abbrev pub planning_of : List (List ℕ) → Option (List ℕ) → PlanSetting → LookUp → List ℕ → List ℕ → Result Plan Fault
planning_of suffixes keep_dir s which first second = plan_or_fault suffixes keep_dir s (dry_run_of 1 first s.cwd which) (dry_run_of 2 second s.cwd which)
