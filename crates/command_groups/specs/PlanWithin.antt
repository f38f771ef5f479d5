-- What two dry runs are planned as within a limit. Each run is read with the whole limit.
use Rattle.std.specs.Prelude.{ℕ, List, Option, Result}
use Rattle.dry_runs.specs.declared.limit.LimitedFault.{LimitedFault}
use Rattle.dry_runs.specs.DryRun.{LookUp}
use Rattle.dry_runs.specs.Limit.{dry_run_within}
use Rattle.compilers.specs.declared.plans.origins.PlanWithOrigins.{PlanWithOrigins}
use Rattle.compilers.specs.declared.plans.plan.Plan.{Plan}
use Rattle.command_groups.specs.Origins.{origins_or_fault, plan_alone}
use Rattle.command_groups.specs.Plan.{PlanSetting}

-- the plan of the bytes of two runs that can be read within the limit, with the origins of its commands; else why the first can't be,
-- or the second if the first can
abbrev pub planning_with_origins_within : ℕ → List (List ℕ) → Option (List ℕ) → PlanSetting → LookUp → List ℕ → List ℕ → Result PlanWithOrigins LimitedFault
planning_with_origins_within limit suffixes keep_dir s which first second =
    origins_or_fault suffixes keep_dir s (dry_run_within limit 1 first s.cwd which) (dry_run_within limit 2 second s.cwd which)

-- the plan that the bytes of two runs have within the limit
abbrev pub planning_within : ℕ → List (List ℕ) → Option (List ℕ) → PlanSetting → LookUp → List ℕ → List ℕ → Result Plan LimitedFault
planning_within limit suffixes keep_dir s which first second = plan_alone (planning_with_origins_within limit suffixes keep_dir s which first second)
