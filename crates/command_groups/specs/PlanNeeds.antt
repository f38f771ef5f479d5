-- The laws of plans with one premise left out of each. None of these is so.
use Rattle.std.specs.Prelude.{◌≡◌, ℕ, List, Option, None}
use Rattle.compilers.specs.CommandLines.{CommandLine}
use Rattle.dry_runs.specs.Environment.{Variable}
use Rattle.canonical_names.specs.CanonicalNames.{AreSuffixes}
use Rattle.command_groups.specs.Plan.{PlanSetting, plan_of}
use Rattle.command_groups.specs.PlanLaws.{AreCleanAndAlike}
use Rattle.command_groups.specs.PlanOfBytes.{named}

-- pairs of runs that are alike in some way have equal plans, with a keep directory or none
abbrev pub PlansAgree : (List (List ℕ) → List CommandLine → List CommandLine → Type 0) → Option (List ℕ) → Type 0
PlansAgree Relation keep_dir =
    (suffixes : List (List ℕ)) → AreSuffixes suffixes →
    (s : PlanSetting) (variables : List Variable) (first second other_first other_second : List CommandLine) →
    Relation suffixes first other_first → Relation suffixes second other_second →
    plan_of s variables (named suffixes keep_dir first) (named suffixes keep_dir second) ≡
    plan_of s variables (named suffixes keep_dir other_first) (named suffixes keep_dir other_second)

-- pairs of runs that are clean and alike have equal plans whatever the first runs' variables are
abbrev pub PlansAgreeWithAnyVariables : Type 0
PlansAgreeWithAnyVariables =
    (suffixes : List (List ℕ)) → AreSuffixes suffixes →
    (s : PlanSetting) (variables others : List Variable)
    (first second other_first other_second : List CommandLine) →
    AreCleanAndAlike suffixes first other_first → AreCleanAndAlike suffixes second other_second →
    plan_of s variables (named suffixes None first) (named suffixes None second) ≡
    plan_of s others (named suffixes None other_first) (named suffixes None other_second)
