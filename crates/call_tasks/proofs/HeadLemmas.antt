-- What heads touch is of their tasks' records.
use Rattle.std.proofs.Common.{◌≡◌, ℕ, ◌-◌, zero, suc, Bool, true, false, cond, not, ◌&&◌, List, [], ◌∷◌, ◌++◌, Option, Some, None, refl, ◌∙◌, map, length, take, drop, filter, bytes_eq}
use Rattle.std.specs.List.{list_all, list_any}
use Rattle.std.specs.Option.{option_or}
use Rattle.std.proofs.lemmas.Bool.{false≢true, and_parts}
use Rattle.std.proofs.lemmas.List.Folds.{list_all-append}
use Rattle.compilers.specs.declared.plans.plan.NvccGeneratedSubcommand.{NvccGeneratedSubcommand}
use Rattle.compilers.specs.Listed.{Listed, listed}
use Rattle.command_files.specs.declared.files.CommandFiles.{CommandFiles}
use Rattle.command_files.specs.Files.{is_among}
use Rattle.command_files.specs.PlanNeeds.{record_of}
use Rattle.command_files.proofs.OrderLemmas.{in_both}
use Rattle.early_starts.specs.declared.split.Split.{Split}
use Rattle.early_starts.specs.LateFiles.{gives, late_file}
use Rattle.early_starts.specs.Overlaps.{files_of}
use Rattle.call_tasks.specs.declared.task.Asks.{Asks}
use Rattle.call_tasks.specs.declared.task.Head.{Head}
use Rattle.call_tasks.specs.declared.task.Task.{Task}
use Rattle.call_tasks.specs.Halves.{halved_by, last_tasks, moved_task, moved_command, moves, names_stub, stub_file}
use Rattle.call_tasks.specs.Heads.{found_head, heads_behind, is_plain, opening_head, with_head}
use Rattle.call_tasks.specs.Parts.{has_head_within, head_is_within, is_within}
use Rattle.call_tasks.specs.PartLaws.{HeadsAreWithin}
use Rattle.call_tasks.specs.Tasks.{planned_task, rule_task, split_of_plan, with_rule}
use Rattle.call_tasks.proofs.RecordLemmas.{all_among, all_more, filtered_among, with_one_between}

-- whether there is no head
abbrev is_no_head : Option Head → Bool
is_no_head None = true
is_no_head (Some h) = false

abbrev has_no_head : Task → Bool
has_no_head t = is_no_head t.head

none_within : (files : CommandFiles) (head : Option Head) → is_no_head head ≡ true → head_is_within files head ≡ true
none_within files None e = refl
none_within files (Some h) e = absurd (false≢true e)

planned_none : (asks : Asks) (count : ℕ) (ls : List Listed) → list_all has_no_head (map (planned_task asks count) ls) ≡ true
planned_none asks count [] = refl
planned_none asks count (l ∷ ls) = planned_none asks count ls

taken : {X : Type 0} (test : X → Bool) (n : ℕ) (xs : List X) → list_all test xs ≡ true → list_all test (take n xs) ≡ true
taken test zero xs all = refl
taken test (suc n) [] all = refl
taken test (suc n) (x ∷ xs) all =
    let parts = and_parts (test x) (list_all test xs) all in
    in_both (test x) (list_all test (take n xs)) parts.0 (taken test n xs parts.1)

dropped : {X : Type 0} (test : X → Bool) (n : ℕ) (xs : List X) → list_all test xs ≡ true → list_all test (drop n xs) ≡ true
dropped test zero xs all = all
dropped test (suc n) [] all = refl
dropped test (suc n) (x ∷ xs) all = dropped test n xs (and_parts (test x) (list_all test xs) all).1

moved_none : (own stub : List ℕ) (t : Task) → has_no_head t ≡ true → has_no_head (moved_task own stub t) ≡ true
moved_none own stub t e =
    elim (names_stub stub t) as (λ b. has_no_head (cond b (record t { command = moved_command own t.command; step = record t.step { files = files_of (moved_command own t.command) } }) t) ≡ true) [
      | true ↦ e
      | false ↦ e
    ]

all_moved : (own stub : List ℕ) (ts : List Task) → list_all has_no_head ts ≡ true → list_all has_no_head (map (moved_task own stub) ts) ≡ true
all_moved own stub [] all = refl
all_moved own stub (t ∷ ts) all =
    let parts = and_parts (has_no_head t) (list_all has_no_head ts) all in
    in_both (has_no_head (moved_task own stub t)) (list_all has_no_head (map (moved_task own stub) ts)) (moved_none own stub t parts.0) (all_moved own stub ts parts.1)

-- tasks without heads have them within
none_all : (ts : List Task) → list_all has_no_head ts ≡ true → list_all has_head_within ts ≡ true
none_all ts all = all_more has_no_head has_head_within (λ t e. none_within t.step.files t.head e) ts all

last_within : (own : List ℕ) (s : Split) (is_moved : Bool) → list_all has_head_within (last_tasks own s is_moved) ≡ true
last_within own s false = refl
last_within own s true =
    let files = files_of s.compiler in
    let reads = list_all (is_among ((files.reads ++ stub_file own ∷ []) ++ s.read ∷ [])) (files.reads ++ s.read ∷ []) in
    let writes = list_all (is_among (record_of files).writes) (record_of files).writes in
    in_both (reads && writes) true (in_both reads writes (with_one_between files.reads (stub_file own) (s.read ∷ [])) (all_among (record_of files).writes)) refl

halves_within : (asks : Asks) (tasks : List Task) (s : Option Split) → list_all has_no_head tasks ≡ true → list_all has_head_within (halved_by asks tasks s) ≡ true
halves_within asks tasks None all = none_all tasks all
halves_within asks tasks (Some s) all =
    let front = take (length tasks - 2) tasks in
    let none = taken has_no_head (length tasks - 2) tasks all in
    elim (moves asks s front) as (λ b. list_all has_head_within (cond b (map (moved_task asks.own s.stub) front) front ++ last_tasks asks.own s b) ≡ true) [
      | true ↦ both (map (moved_task asks.own s.stub) front) (last_tasks asks.own s true) (none_all (map (moved_task asks.own s.stub) front) (all_moved asks.own s.stub front none)) (last_within asks.own s true)
      | false ↦ both front (last_tasks asks.own s false) (none_all front none) (last_within asks.own s false)
    ]
  where
    both : (front back : List Task) → list_all has_head_within front ≡ true → list_all has_head_within back ≡ true → list_all has_head_within (front ++ back) ≡ true
    both front back e f = list_all-append has_head_within front back ∙ in_both (list_all has_head_within front) (list_all has_head_within back) e f

rule_within : (rule : Option NvccGeneratedSubcommand) (tasks : List Task) → list_all has_head_within tasks ≡ true → list_all has_head_within (with_rule rule tasks) ≡ true
rule_within None tasks all = all
rule_within (Some c) tasks all =
    let n = length tasks - 1 in
    list_all-append has_head_within (take n tasks) (rule_task c ∷ drop n tasks)
    ∙ in_both (list_all has_head_within (take n tasks)) (list_all has_head_within (drop n tasks)) (taken has_head_within n tasks all) (dropped has_head_within n tasks all)

-- a head that opens its file late
opening_within : (own : List ℕ) (n : ℕ) (late : List ℕ) (t : Task) → is_within (opening_head own n late t).step.files t.step.files ≡ true
opening_within own n late t =
    in_both (list_all (is_among t.step.files.reads) (filter (λ path. not (bytes_eq path late)) t.step.files.reads))
    (list_all (is_among (record_of t.step.files).writes) (record_of t.step.files).writes)
    (filtered_among (λ path. not (bytes_eq path late)) t.step.files.reads) (all_among (record_of t.step.files).writes)

found_within : (own : List ℕ) (before : List Task) (t : Task) (late : Option (List ℕ)) → head_is_within t.step.files (found_head own before t late) ≡ true
found_within own before t None = refl
found_within own before t (Some late) =
    elim (is_plain t.step.role && list_any (λ e. gives late e.command) before) as (λ b. head_is_within t.step.files (cond b (Some (opening_head own (length before) late t)) None) ≡ true) [
      | true ↦ opening_within own (length before) late t
      | false ↦ refl
    ]

or_within : (files : CommandFiles) (one other : Option Head) → head_is_within files one ≡ true → head_is_within files other ≡ true → head_is_within files (option_or one other) ≡ true
or_within files None other e f = f
or_within files (Some h) other e f = e

heads_within : (own : List ℕ) (before ts : List Task) → list_all has_head_within before ≡ true → list_all has_head_within ts ≡ true → list_all has_head_within (heads_behind own before ts) ≡ true
heads_within own before [] all more = all
heads_within own before (t ∷ ts) all more =
    let parts = and_parts (has_head_within t) (list_all has_head_within ts) more in
    let now = with_head own before t in
    let is : has_head_within now ≡ true =
    or_within t.step.files (found_head own before t (late_file t.command)) t.head (found_within own before t (late_file t.command)) parts.0 in
    heads_within own (before ++ now ∷ []) ts
    (list_all-append has_head_within before (now ∷ []) ∙ in_both (list_all has_head_within before) (has_head_within now && true) all (in_both (has_head_within now) true is refl)) parts.1

pub heads-are-within : HeadsAreWithin
heads-are-within asks plan =
    let planned = map (planned_task asks (length plan.groups)) (listed plan.groups) in
    let made = with_rule asks.rule (halved_by asks planned (split_of_plan asks plan)) in
    let all = rule_within asks.rule (halved_by asks planned (split_of_plan asks plan)) (halves_within asks planned (split_of_plan asks plan) (planned_none asks (length plan.groups) (listed plan.groups))) in
    elim asks.heads as (λ b. list_all has_head_within (cond b (heads_behind asks.own [] made) made) ≡ true) [
      | true ↦ heads_within asks.own [] made refl all
      | false ↦ all
    ]
