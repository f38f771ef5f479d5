-- The lines of the dry runs that the commands of a plan come from.
use Rattle.std.specs.Prelude.{◌≡◌, ℕ, List, Option, Result, Ok, Err, flat_map}
use Rattle.texts.specs.declared.fault.Fault.{Fault}
use Rattle.dry_runs.specs.declared.parsed_runs.ParsedRuns.{ParsedRuns}
use Rattle.compilers.specs.CommandLines.{CommandLine}
use Rattle.dry_runs.specs.DryRun.{LookUp, dry_run_of}
use Rattle.dry_runs.specs.Environment.{Variable}
use Rattle.dry_runs.specs.Parsed.{both_parsed, resolved}
use Rattle.compilers.specs.declared.plans.origins.Origin.{Origin}
use Rattle.compilers.specs.declared.plans.origins.PlanWithOrigins.{PlanWithOrigins}
use Rattle.compilers.specs.declared.plans.plan.Plan.{Plan}
use Rattle.command_groups.specs.Stage.{StagedCommand}
use Rattle.command_groups.specs.Fate.{opened_names, fates}
use Rattle.command_groups.specs.Plan.{PlanSetting, groups_by, plan_of_staged, staged_commands, with_environment}
use Rattle.command_groups.specs.PlanOfBytes.{named}

-- the line and the run of a command
abbrev pub origin_of : StagedCommand → Origin
origin_of c = record { line = c.command.line; run = c.command.run }

-- the plan of staged commands, with the origins of its commands in plan order
abbrev pub planned_of_staged : PlanSetting → List StagedCommand → PlanWithOrigins
planned_of_staged s commands = record {
  plan = plan_of_staged s commands;
  origins = flat_map (λ group. group) (groups_by origin_of (opened_names commands) (fates commands));
}

-- the same of the commands of two runs
abbrev pub plan_with_origins : PlanSetting → List Variable → List CommandLine → List CommandLine → PlanWithOrigins
plan_with_origins s variables first second = planned_of_staged (with_environment s variables) (staged_commands s first second)

-- the same of two runs that can be read; else the fault of the first, or of the second if the first can be read
abbrev pub origins_or_fault : {E : Type 0} → List (List ℕ) → Option (List ℕ) → PlanSetting →
    Result (List CommandLine × List Variable) E → Result (List CommandLine × List Variable) E →
    Result PlanWithOrigins E
origins_or_fault suffixes keep_dir s (Err fault) second = Err fault
origins_or_fault suffixes keep_dir s (Ok first) (Err fault) = Err fault
origins_or_fault suffixes keep_dir s (Ok first) (Ok second) =
    Ok (plan_with_origins s first.1 (named suffixes keep_dir first.0) (named suffixes keep_dir second.0))

-- the same of two runs that are parsed, once their programs are looked up
abbrev pub planning_of_parsed : List (List ℕ) → Option (List ℕ) → PlanSetting → LookUp → ParsedRuns → Result PlanWithOrigins Fault
planning_of_parsed suffixes keep_dir s which runs =
    origins_or_fault suffixes keep_dir s (resolved which s.cwd runs.first) (resolved which s.cwd runs.second)

-- the same of the bytes of two runs
abbrev pub planning_with_origins : List (List ℕ) → Option (List ℕ) → PlanSetting → LookUp → List ℕ → List ℕ → Result PlanWithOrigins Fault
planning_with_origins suffixes keep_dir s which first second =
    origins_or_fault suffixes keep_dir s (dry_run_of 1 first s.cwd which) (dry_run_of 2 second s.cwd which)

-- its plan alone
abbrev pub plan_alone : {E : Type 0} → Result PlanWithOrigins E → Result Plan E
plan_alone (Ok planned) = Ok planned.plan
plan_alone (Err fault) = Err fault

-- two runs that are parsed are planned as their bytes are
abbrev pub ParsedRunsArePlanned : Type 0
ParsedRunsArePlanned =
    (suffixes : List (List ℕ)) (keep_dir : Option (List ℕ)) (s : PlanSetting) (which : LookUp) (dry1 dry2 : List ℕ)
    → planning_of_parsed suffixes keep_dir s which (both_parsed dry1 dry2) ≡ planning_with_origins suffixes keep_dir s which dry1 dry2
