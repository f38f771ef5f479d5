-- Plans of dry runs that can be read, by their parts, and of dry runs that are alike.
use Rattle.std.proofs.Common.{◌≡◌, ℕ, List, [], ◌∷◌, Bool, true, map, Option, None, Result, Ok, refl, sym, ap, subst, ◌∙◌, arith, ◌+◌, ◌<◌, ◌&&◌, nat_lt, lt-ltb, Err, IfOk}
use Rattle.std.specs.List.{list_all, filter_map, enumerate_from}
use Rattle.std.proofs.lemmas.Bool.{and_from}
use Rattle.std.proofs.lemmas.Simd.{map-map}
use Rattle.texts.specs.declared.fault.Fault.{Fault}
use Rattle.compilers.specs.CommandLines.{CommandLine, line_of, words_of_command}
use Rattle.dry_runs.specs.DryRun.{LookUp, Meaning, meanings, run_or_fault, dry_run_of, Runs, meaning_found, meaning_by_path, meaning_of_words, meaning_assigned, meaning_marked, meaning, environment_after, command_of}
use Rattle.dry_runs.specs.DryRunLines.{numbered_lines}
use Rattle.dry_runs.specs.Environment.{Variable}
use Rattle.canonical_names.proofs.AlikeLemmas.{alike-runs_agree}
use Rattle.canonical_names.specs.CanonicalNames.{AreSuffixes}
use Rattle.canonical_names.specs.Renaming.{renamed, seen_after, renamed_after}
use Rattle.compilers.specs.declared.plans.plan.Plan.{Plan}
use Rattle.texts.specs.Fault.{UnlessMemory, UnlessMemoryIs}
use Rattle.compilers.specs.declared.dry_run.DryRun.{DryRun}
use Rattle.dry_runs.specs.declared.parsed.ParsedRun.{ParsedRun}
use Rattle.dry_runs.specs.declared.parsed_runs.ParsedRuns.{ParsedRuns}
use Rattle.dry_runs.specs.Parsed.{IsParsed, both_parsed, resolved}
use Rattle.dry_runs.specs.Reading.{dry_run_seen, run_seen}
use Rattle.dry_runs.proofs.ParsedLemmas.{parses-then-resolves}
use Rattle.compilers.specs.declared.plans.origins.PlanWithOrigins.{PlanWithOrigins}
use Rattle.command_groups.specs.Fate.{Fate, PlacedCommand, places, fates}
use Rattle.command_groups.specs.Merge.{MergedCommand, is_in_order, merged}
use Rattle.command_groups.specs.MergeLaws.{InOrder, Rises}
use Rattle.command_groups.specs.Plan.{PlanSetting, of_fate, staged_commands, plan_of}
use Rattle.command_groups.specs.PlanOfBytes.{named, plan_or_fault, planning_of}
use Rattle.command_groups.specs.PlanLaws.{AreCleanAndAlike, AlikePairsHaveOnePlan, AlikeTextsHaveOnePlan, faults_of_run, ReadableRunsArePlanned, PlannedRunsAreReadable, FirstRunIsRefused, SecondRunIsRefused, HasOneFateEach, Says, PlannedCommandsHaveOneFate}
use Rattle.command_groups.specs.Stage.{StagedCommand, staged}
use Rattle.command_groups.proofs.FateLemmas.{each_has_one_fate, fates_staged, placed_staged}
use Rattle.command_groups.proofs.MergeLemmas.{merged_is_in_order, merged_are_the_selected, stand_left}
use Rattle.command_groups.specs.Origins.{origins_or_fault, plan_alone, planning_of_parsed, planning_with_origins, ParsedRunsArePlanned}

-- Runs that are alike.

one_name : (suffixes : List (List ℕ)) → AreSuffixes suffixes → (one other : List CommandLine) → AreCleanAndAlike suffixes one other → renamed suffixes one ≡ renamed suffixes other
one_name suffixes lawful one other like = alike-runs_agree suffixes lawful one other like.one_is_clean like.other_is_clean like.alike

pub alike_pairs_have_one_plan : AlikePairsHaveOnePlan
alike_pairs_have_one_plan suffixes lawful s variables first second other_first other_second firsts seconds = grind (arith, one_name)

planned : (suffixes : List (List ℕ)) (keep_dir : Option (List ℕ)) (s : PlanSetting) (which : LookUp) (first second : List ℕ) (one two : List CommandLine × List Variable) →
    dry_run_of 1 first s.cwd which ≡ Ok one → dry_run_of 2 second s.cwd which ≡ Ok two →
    planning_of suffixes keep_dir s which first second ≡ Ok (plan_of s one.1 (named suffixes keep_dir one.0) (named suffixes keep_dir two.0))
planned suffixes keep_dir s which first second one two e f = grind arith

pub alike_texts_have_one_plan : AlikeTextsHaveOnePlan
alike_texts_have_one_plan suffixes lawful s which first second other_first other_second firsts seconds same =
    let one = firsts.one_says in
    let two = seconds.one_says in
    let other_one = firsts.other_says in
    let other_two = seconds.other_says in (
      plan_of s one.1 (named suffixes None one.0) (named suffixes None two.0),
      planned suffixes None s which first second one two firsts.one_is_read seconds.one_is_read,
      planned suffixes None s which other_first other_second other_one other_two firsts.other_is_read seconds.other_is_read
          ∙ ap Ok (ap (λ v. plan_of s v (named suffixes None other_one.0) (named suffixes None other_two.0)) (sym same)
          ∙ sym (alike_pairs_have_one_plan suffixes lawful s one.1 one.0 two.0 other_one.0 other_two.0 firsts.like seconds.like)),
    )

-- Runs that can be read.

-- what is planned, by the faults of both runs
module _ (suffixes : List (List ℕ)) (keep_dir : Option (List ℕ)) (s : PlanSetting) where
  only : (lines more : List Meaning) (faults others : List Fault) (plan : Plan) →
      plan_or_fault suffixes keep_dir s (run_or_fault lines faults) (run_or_fault more others) ≡ Ok plan → (faults ≡ []) × (others ≡ [])
  only lines more faults others plan e = grind arith

  pub by_faults : (which : LookUp) (first second : List ℕ) (faults others : List Fault) → faults_of_run which s.cwd 1 first ≡ faults → faults_of_run which s.cwd 2 second ≡ others →
      planning_of suffixes keep_dir s which first second ≡
      plan_or_fault suffixes keep_dir s (run_or_fault (meanings which 1 s.cwd [] (numbered_lines first)) faults) (run_or_fault (meanings which 2 s.cwd [] (numbered_lines second)) others)
  by_faults which first second faults others e f = grind arith

pub readable_runs_are_planned : ReadableRunsArePlanned
readable_runs_are_planned suffixes keep_dir s which first second e f = (_, by_faults suffixes keep_dir s which first second [] [] e f)

pub planned_runs_are_readable : PlannedRunsAreReadable
planned_runs_are_readable suffixes keep_dir s which first second plan e = grind (arith, only)

pub first_run_is_refused : FirstRunIsRefused
first_run_is_refused suffixes keep_dir s which first second fault others e = grind (arith, by_faults)

pub second_run_is_refused : SecondRunIsRefused
second_run_is_refused suffixes keep_dir s which first second fault others e f = grind (arith, by_faults)

-- Groups in order.

-- staged commands stand as the merged ones do
staged_in_order : (s : PlanSetting) (c : MergedCommand) (cs : List MergedCommand) → list_all (is_in_order c) cs ≡ true → list_all (is_in_order (staged s.host_compiler s.flag c).command) (map (λ t. t.command) (map (staged s.host_compiler s.flag) cs)) ≡ true
staged_in_order s c [] h = refl
staged_in_order s c (d ∷ ds) h = grind (arith, and_from, (staged_in_order s c ds))

pub all_staged_in_order : (s : PlanSetting) (cs : List MergedCommand) → InOrder cs → InOrder (map (λ t. t.command) (map (staged s.host_compiler s.flag) cs))
all_staged_in_order s [] h = tt
all_staged_in_order s (c ∷ cs) h = (staged_in_order s c cs h.0, all_staged_in_order s cs h.1)

pub group_is_in_order : (s : PlanSetting) (first second : List CommandLine) (test : Fate → Bool) → InOrder (map (λ p. p.staged.command) (of_fate test (fates (staged_commands s first second))))
group_is_in_order s first second test =
    let commands : List StagedCommand = staged_commands s first second in
    stand_left (λ (p : PlacedCommand). p.staged.command) (λ (p : PlacedCommand). test p.fate) is_in_order (fates commands)
    (subst InOrder (ap (map (λ (t : StagedCommand). t.command)) (sym (fates_staged (places commands) ∙ placed_staged [] [] commands)) ∙ map-map (λ (t : StagedCommand). t.command) (λ (p : PlacedCommand). p.staged) (fates commands))
    (all_staged_in_order s (merged first second) (merged_is_in_order first second)))

-- Fates.

pub planned_commands_have_one_fate : PlannedCommandsHaveOneFate
planned_commands_have_one_fate suffixes keep_dir s which first second plan e =
    let more = meanings which 2 s.cwd [] (numbered_lines second) in
    let read = planned_runs_are_readable suffixes keep_dir s which first second plan e in
    let said : Says which s.cwd first second = record { one = _; two = _; one_is_read = ap (run_or_fault (meanings which 1 s.cwd [] (numbered_lines first))) read.0; two_is_read = ap (run_or_fault more) read.1 } in
    let exact : Plan = plan_of s said.one.1 (named suffixes keep_dir said.one.0) (named suffixes keep_dir said.two.0) in
    let is : exact ≡ plan = cc (planned suffixes keep_dir s which first second said.one said.two said.one_is_read said.two_is_read, e) in
    (said, subst (HasOneFateEach s said.one.1 (named suffixes keep_dir said.one.0) (named suffixes keep_dir said.two.0)) is ((grind (arith, merged_are_the_selected, merged_is_in_order, each_has_one_fate, group_is_in_order))))

-- The commands of a dry run stand at rising lines, and their names change none.

-- a meaning that is a command has the number of its line
abbrev LineIs : ℕ → Meaning → Type 0
LineIs n (Runs c) = line_of c ≡ n
LineIs n _ = Unit {0}

all_cons : (m n : ℕ) (ns : List ℕ) → m < n → list_all (nat_lt m) ns ≡ true → list_all (nat_lt m) (n ∷ ns) ≡ true
all_cons m n ns h k = ap (λ b. b && list_all (nat_lt m) ns) (lt-ltb m n h) ∙ k

module _ (which : LookUp) (run : ℕ) (cwd : List ℕ) where
  of_found : (line : ℕ) (program : List ℕ) (words : List (List ℕ)) (path : Option (List ℕ)) → LineIs line (meaning_found which run cwd line program words path)
  of_found line program words path = grind arith

  of_path : (line : ℕ) (program : List ℕ) (words : List (List ℕ)) (path : Option (List ℕ)) → LineIs line (meaning_by_path which run cwd line program words path)
  of_path line program words path = grind (arith, of_found)

  of_words : (line : ℕ) (env : List Variable) (words : Option (List (List ℕ))) → LineIs line (meaning_of_words which run cwd line env words)
  of_words line env words = grind (arith, of_path)

  of_assigned : (line : ℕ) (env : List Variable) (text : List ℕ) (v : Option Variable) → LineIs line (meaning_assigned which run cwd line env text v)
  of_assigned line env text v = grind (arith, of_words)

  of_marked : (line : ℕ) (env : List Variable) (text : Option (List ℕ)) → LineIs line (meaning_marked which run cwd line env text)
  of_marked line env text = grind (arith, of_assigned)

  of_line : (env : List Variable) (line : ℕ × List ℕ) → LineIs line.0 (meaning which run cwd env line)
  of_line env line = grind (arith, of_marked)

  abbrev lines_of : List Meaning → List ℕ
  lines_of ms = map line_of (filter_map command_of ms)

  above_with : (m n : ℕ) → m < n → (first : Meaning) (rest : List Meaning) → LineIs n first → list_all (nat_lt m) (lines_of rest) ≡ true → list_all (nat_lt m) (lines_of (first ∷ rest)) ≡ true
  above_with m n h first rest l k = grind (arith, all_cons)

  above : (m n : ℕ) (env : List Variable) (xs : List (List ℕ)) → m < n → list_all (nat_lt m) (lines_of (meanings which run cwd env (enumerate_from n xs))) ≡ true
  above m n env [] h = refl
  above m n env (x ∷ xs) h =
      above_with m n h (meaning which run cwd env (n, x)) (meanings which run cwd (environment_after which run cwd env (meaning which run cwd env (n, x))) (enumerate_from (n + 1) xs)) (of_line env (n, x))
      (above m (n + 1) (environment_after which run cwd env (meaning which run cwd env (n, x))) xs (omega arith))

  rises_with : (n : ℕ) (first : Meaning) (rest : List Meaning) → LineIs n first → list_all (nat_lt n) (lines_of rest) ≡ true → Rises (lines_of rest) → Rises (lines_of (first ∷ rest))
  rises_with n first rest l h k = grind arith

  rises : (n : ℕ) (env : List Variable) (xs : List (List ℕ)) → Rises (lines_of (meanings which run cwd env (enumerate_from n xs)))
  rises n env [] = tt
  rises n env (x ∷ xs) =
      let env' : List Variable = environment_after which run cwd env (meaning which run cwd env (n, x)) in
      grind (arith, rises_with, of_line, above, (rises (n + 1) env' xs))

read_rises : (ms : List Meaning) (faults : List Fault) (r : List CommandLine × List Variable) → run_or_fault ms faults ≡ Ok r → Rises (map line_of (filter_map command_of ms)) → Rises (map line_of r.0)
read_rises ms faults r e h = grind arith

-- the commands that a dry run gives stand at rising lines
pub dry_run_rises : (run : ℕ) (bytes cwd : List ℕ) (which : LookUp) (r : List CommandLine × List Variable) → dry_run_of run bytes cwd which ≡ Ok r → Rises (map line_of r.0)
dry_run_rises run bytes cwd which r e = grind (arith, read_rises, rises)

lines_stay : (suffixes seen : List (List ℕ)) (cs : List CommandLine) → map line_of (renamed_after suffixes seen cs) ≡ map line_of cs
lines_stay suffixes seen [] = refl
lines_stay suffixes seen (c ∷ cs) = ap (λ ns. line_of c ∷ ns) (lines_stay suffixes (seen_after suffixes seen (words_of_command c)) cs)

-- and they do with their canonical names
pub named_rises : (suffixes : List (List ℕ)) (keep_dir : Option (List ℕ)) (cs : List CommandLine) → Rises (map line_of cs) → Rises (map line_of (named suffixes keep_dir cs))
named_rises suffixes keep_dir cs h = grind (arith, lines_stay)

-- The plan of two dry runs, by its parts.

-- the commands of a parsed run have rising lines
pub resolved_rises : (which : LookUp) (cwd : List ℕ) (parsed : ParsedRun) (said : Result DryRun Fault) → IsParsed parsed → UnlessMemory (dry_run_seen said) (resolved which cwd parsed) → IfOk said (λ s. Rises (map line_of s.commands))
resolved_rises which cwd parsed (Ok said) (run, bytes, is) e =
    dry_run_rises run bytes cwd which (run_seen said) (sym (parses-then-resolves run bytes cwd which) ∙ sym (ap (resolved which cwd) is) ∙ e)
resolved_rises which cwd parsed (Err fault) p e = tt

pub parsed_runs_are_planned : ParsedRunsArePlanned
parsed_runs_are_planned suffixes keep_dir s which dry1 dry2 = simp parses-then-resolves

pub parsed_is_planned : (suffixes : List (List ℕ)) (keep_dir : Option (List ℕ)) (s : PlanSetting) (which : LookUp) (dry1 dry2 : List ℕ) (runs : ParsedRuns) (planned : Result PlanWithOrigins Fault) → runs ≡ both_parsed dry1 dry2 → UnlessMemory planned (planning_of_parsed suffixes keep_dir s which runs) → UnlessMemory planned (planning_with_origins suffixes keep_dir s which dry1 dry2)
parsed_is_planned suffixes keep_dir s which dry1 dry2 runs planned are e = grind (arith, parsed_runs_are_planned)

-- the plan without the origins of its commands
alone : (suffixes : List (List ℕ)) (keep_dir : Option (List ℕ)) (s : PlanSetting) (first second : Result (List CommandLine × List Variable) Fault) → plan_alone (origins_or_fault suffixes keep_dir s first second) ≡ plan_or_fault suffixes keep_dir s first second
alone suffixes keep_dir s first second = grind arith

unless : {P Q : Type 0} (fault : Fault) → (P → Q) → UnlessMemoryIs fault P → UnlessMemoryIs fault Q
unless fault h e = grind arith

pub planned_alone : (suffixes : List (List ℕ)) (keep_dir : Option (List ℕ)) (s : PlanSetting) (first second : Result (List CommandLine × List Variable) Fault) (planned : Result PlanWithOrigins Fault) (answer : Result Plan Fault) → answer ≡ plan_alone planned → UnlessMemory planned (origins_or_fault suffixes keep_dir s first second) → UnlessMemory answer (plan_or_fault suffixes keep_dir s first second)
planned_alone suffixes keep_dir s first second planned answer same e = grind (arith, alone)
