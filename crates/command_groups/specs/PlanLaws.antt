-- What is claimed of the plans of dry runs, for all of them.
use Rattle.std.specs.Prelude.{◌≡◌, ℕ, List, [], ◌∷◌, ◌++◌, Bool, true, map, filter_map, Option, None, Ok, Err, IsPermutation}
use Rattle.texts.specs.declared.fault.Fault.{Fault}
use Rattle.compilers.specs.CommandLines.{CommandLine}
use Rattle.dry_runs.specs.DryRun.{LookUp, fault_of, meanings, dry_run_of}
use Rattle.dry_runs.specs.DryRunLines.{numbered_lines}
use Rattle.dry_runs.specs.Environment.{Variable}
use Rattle.canonical_names.specs.Alike.{is_clean, Alike}
use Rattle.canonical_names.specs.CanonicalNames.{AreSuffixes}
use Rattle.compilers.specs.declared.plans.plan.Plan.{Plan}
use Rattle.command_groups.specs.Fate.{Fate, opened_names, fates}
use Rattle.command_groups.specs.FateLaws.{regrouped}
use Rattle.command_groups.specs.Merge.{of_run, selected, is_nvcc_stem, is_host_stem, merged}
use Rattle.command_groups.specs.MergeLaws.{InOrder}
use Rattle.command_groups.specs.Plan.{PlanSetting, of_fate, subcommand_of, groups_by, dropped_by, staged_commands, with_environment, plan_of}
use Rattle.command_groups.specs.PlanOfBytes.{named, planning_of}

-- two runs that are clean, and alike
pub record AreCleanAndAlike (suffixes : List (List ℕ)) (one other : List CommandLine) : Type 0 where
  pub one_is_clean : is_clean suffixes one ≡ true
  pub other_is_clean : is_clean suffixes other ≡ true
  pub alike : Alike suffixes one other

-- pairs of runs, of which the first two are clean and alike and so are the second two, have equal plans, in one setting and
-- with one list of variables of the first runs; words are renamed
abbrev pub AlikePairsHaveOnePlan : Type 0
AlikePairsHaveOnePlan =
    (suffixes : List (List ℕ)) → AreSuffixes suffixes →
    (s : PlanSetting) (variables : List Variable) (first second other_first other_second : List CommandLine) →
    AreCleanAndAlike suffixes first other_first → AreCleanAndAlike suffixes second other_second →
    plan_of s variables (named suffixes None first) (named suffixes None second) ≡
    plan_of s variables (named suffixes None other_first) (named suffixes None other_second)

-- two texts that are dry runs of a number, both readable, whose commands are clean and alike
pub record AreAlikeTexts (suffixes : List (List ℕ)) (which : LookUp) (cwd : List ℕ) (run : ℕ) (one other : List ℕ) : Type 0 where
  pub one_says : List CommandLine × List Variable
  pub other_says : List CommandLine × List Variable
  pub one_is_read : dry_run_of run one cwd which ≡ Ok one_says
  pub other_is_read : dry_run_of run other cwd which ≡ Ok other_says
  pub like : AreCleanAndAlike suffixes one_says.0 other_says.0

-- two pairs of texts, all readable, of which the first two are alike and so are the second two, and the first two set the
-- same variables, are planned, and as one plan
abbrev pub AlikeTextsHaveOnePlan : Type 0
AlikeTextsHaveOnePlan =
    (suffixes : List (List ℕ)) → AreSuffixes suffixes → (s : PlanSetting) (which : LookUp) (first second other_first other_second : List ℕ) →
    (firsts : AreAlikeTexts suffixes which s.cwd 1 first other_first) → AreAlikeTexts suffixes which s.cwd 2 second other_second →
    firsts.one_says.1 ≡ firsts.other_says.1 →
    (plan : Plan) × (planning_of suffixes None s which first second ≡ Ok plan) × (planning_of suffixes None s which other_first other_second ≡ Ok plan)

-- The faults of a run's bad lines, in order, and whether it has none.

abbrev pub faults_of_run : LookUp → List ℕ → ℕ → List ℕ → List Fault
faults_of_run which cwd run bytes = filter_map fault_of (meanings which run cwd [] (numbered_lines bytes))

abbrev pub IsReadable : LookUp → List ℕ → ℕ → List ℕ → Type 0
IsReadable which cwd run bytes = faults_of_run which cwd run bytes ≡ []

-- two dry runs that can be read are planned
abbrev pub ReadableRunsArePlanned : Type 0
ReadableRunsArePlanned =
    (suffixes : List (List ℕ)) (keep_dir : Option (List ℕ)) (s : PlanSetting) (which : LookUp) (first second : List ℕ) →
    IsReadable which s.cwd 1 first → IsReadable which s.cwd 2 second → (plan : Plan) × (planning_of suffixes keep_dir s which first second ≡ Ok plan)

-- only such dry runs are
abbrev pub PlannedRunsAreReadable : Type 0
PlannedRunsAreReadable =
    (suffixes : List (List ℕ)) (keep_dir : Option (List ℕ)) (s : PlanSetting) (which : LookUp) (first second : List ℕ) (plan : Plan) →
    planning_of suffixes keep_dir s which first second ≡ Ok plan → IsReadable which s.cwd 1 first × IsReadable which s.cwd 2 second

-- a first run that can't be read is refused with the fault of its first bad line, whatever the second run is
abbrev pub FirstRunIsRefused : Type 0
FirstRunIsRefused =
    (suffixes : List (List ℕ)) (keep_dir : Option (List ℕ)) (s : PlanSetting) (which : LookUp) (first second : List ℕ) (fault : Fault) (others : List Fault) →
    faults_of_run which s.cwd 1 first ≡ fault ∷ others → planning_of suffixes keep_dir s which first second ≡ Err fault

-- a second run that can't be read is refused so if the first one can be
abbrev pub SecondRunIsRefused : Type 0
SecondRunIsRefused =
    (suffixes : List (List ℕ)) (keep_dir : Option (List ℕ)) (s : PlanSetting) (which : LookUp) (first second : List ℕ) (fault : Fault) (others : List Fault) →
    IsReadable which s.cwd 1 first → faults_of_run which s.cwd 2 second ≡ fault ∷ others → planning_of suffixes keep_dir s which first second ≡ Err fault

-- a plan of the commands of two runs, their words renamed already where they are to be: the merged commands are the selected
-- ones, each once, in order of line and run; the groups and the dropped list are those of the fates of these commands, in
-- which each has one, and each of them stands in order
pub record HasOneFateEach (s : PlanSetting) (variables : List Variable) (first second : List CommandLine) (plan : Plan) : Type 0 where
  pub selected_are_merged : IsPermutation (map (of_run 1) (selected is_nvcc_stem first) ++ map (of_run 2) (selected is_host_stem second)) (merged first second)
  pub merged_in_order : InOrder (merged first second)
  pub one_fate : IsPermutation (staged_commands s first second)
      (map (λ p. p.staged)
      (regrouped (opened_names (staged_commands s first second)) (fates (staged_commands s first second))))
  pub groups : plan.groups ≡ groups_by (subcommand_of (with_environment s variables)) (opened_names (staged_commands s first second)) (fates (staged_commands s first second))
  pub dropped : plan.dropped ≡ filter_map (λ p. dropped_by p.fate p.staged.command) (fates (staged_commands s first second))
  pub in_order : (test : Fate → Bool) → InOrder (map (λ p. p.staged.command) (of_fate test (fates (staged_commands s first second))))

-- what two dry runs say
pub record Says (which : LookUp) (cwd first second : List ℕ) : Type 0 where
  pub one : List CommandLine × List Variable
  pub two : List CommandLine × List Variable
  pub one_is_read : dry_run_of 1 first cwd which ≡ Ok one
  pub two_is_read : dry_run_of 2 second cwd which ≡ Ok two

-- in a plan of two dry runs each selected command has the one fate of its rule, and each group is its fate's commands in order
abbrev pub PlannedCommandsHaveOneFate : Type 0
PlannedCommandsHaveOneFate =
    (suffixes : List (List ℕ)) (keep_dir : Option (List ℕ)) (s : PlanSetting) (which : LookUp) (first second : List ℕ) (plan : Plan) →
    planning_of suffixes keep_dir s which first second ≡ Ok plan →
    (said : Says which s.cwd first second) × HasOneFateEach s said.one.1 (named suffixes keep_dir said.one.0) (named suffixes keep_dir said.two.0) plan
