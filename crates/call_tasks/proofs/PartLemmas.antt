-- Parts of tasks, and the histories in which they run.
use Rattle.std.proofs.Common.{◌≡◌, ℕ, zero, suc, ◌+◌, ◌<◌, ◌≤◌, Bool, true, false, not, ◌&&◌, ◌||◌, ◌==◌, List, [], ◌∷◌, ◌++◌, Option, Some, None, refl, ap, sym, subst, ◌∙◌, map, length, get_or, arith}
use Rattle.std.specs.List.{list_all, range_with_len}
use Rattle.std.proofs.lemmas.Bool.{false≢true, and_parts}
use Rattle.std.proofs.lemmas.List.{length-map}
use Rattle.compilers.specs.declared.command.Cacheable.TheVariants.{No}
use Rattle.compilers.specs.declared.plans.plan.Plan.{Plan}
use Rattle.command_files.specs.declared.files.CommandFiles.{CommandFiles}
use Rattle.command_files.specs.declared.steps.Role.TheVariants as roles
use Rattle.command_files.specs.declared.steps.Step.{Step}
use Rattle.command_files.specs.Files.{Files, must_follow}
use Rattle.command_files.specs.Order.{files_at, Contents, Effect, contents_after, Hold}
use Rattle.command_files.specs.Overlap.{ArePartsOf}
use Rattle.command_files.specs.PlanNeeds.{record_of, role_needs}
use Rattle.command_files.proofs.NeedLemmas.{length-needs_behind, needs_each}
use Rattle.command_files.proofs.OrderLemmas.{in_both, orders_agree}
use Rattle.schedule_orders.specs.Closed.{closed}
use Rattle.schedule_orders.specs.Products.{as_a_whole}
use Rattle.schedule_orders.proofs.ClosedLemmas.{listed_needed, length-closed}
use Rattle.schedule_orders.proofs.ProductLemmas.{leaves}
use Rattle.schedule_orders.proofs.WholeLemmas.{as_wholes}
use Rattle.call_tasks.specs.declared.task.Asks.{Asks}
use Rattle.call_tasks.specs.declared.task.Head.{Head}
use Rattle.call_tasks.specs.declared.task.Task.{Task}
use Rattle.call_tasks.specs.Parts.{Part, has_head_within, head_is_within, head_of, is_within, part_needs, part_needs_part, part_numbers, part_records, parts_from, parts_of, rest_of}
use Rattle.call_tasks.specs.PartLaws.{PartsHold, PartsAgree, HistoriesLeaveTasks, TasksStandForPlans, WithoutStanding, WithoutLikeness, StandFor, AreAlike, parts_of_plan, records_of_plan, needs_of_plan}
use Rattle.call_tasks.specs.Tasks.{tasks_of}
use Rattle.call_tasks.proofs.HeadLemmas.{heads-are-within}
use Rattle.call_tasks.proofs.RecordLemmas.{must_follow_whole, within_itself}

abbrev no_files : CommandFiles
no_files = record { reads = []; writes = []; may_write = []; complete = true }

abbrev no_step : Step
no_step = record { files = no_files; role = roles.Plain; preprocesses = false }

abbrev no_task : Task
no_task = record { command = record { exe = []; args = []; cwd = []; env_vars = []; cacheable = No }; step = no_step; is_rule = false; head = None }

abbrev no_part : Part
no_part = record { number = 0; whole = no_task; step = no_step }

-- whether a part's record is within that of its task
abbrev part_is_within : Part → Bool
part_is_within p = is_within p.step.files p.whole.step.files

head_part_within : (n : ℕ) (t : Task) (head : Option Head) (rest : List Part) → head_is_within t.step.files head ≡ true → list_all part_is_within rest ≡ true
    → list_all part_is_within (head_of n t head ++ rest) ≡ true
head_part_within n t None rest e all = all
head_part_within n t (Some h) rest e all = in_both (is_within h.step.files t.step.files) (list_all part_is_within rest) e all

parts_within : (n : ℕ) (ts : List Task) → list_all has_head_within ts ≡ true → list_all part_is_within (parts_from n ts) ≡ true
parts_within n [] all = refl
parts_within n (t ∷ ts) all =
    let each = and_parts (has_head_within t) (list_all has_head_within ts) all in
    head_part_within n t t.head (rest_of n t ∷ parts_from (n + 1) ts) each.0
    (in_both (part_is_within (rest_of n t)) (list_all part_is_within (parts_from (n + 1) ts)) (within_itself t.step.files) (parts_within (n + 1) ts each.1))

part_at : (parts : List Part) (i : ℕ) → list_all part_is_within parts ≡ true → part_is_within (get_or parts i no_part) ≡ true
part_at [] i all = refl
part_at (p ∷ parts) zero all = (and_parts (part_is_within p) (list_all part_is_within parts) all).0
part_at (p ∷ parts) (suc i) all = part_at parts i (and_parts (part_is_within p) (list_all part_is_within parts) all).1

record_at : (parts : List Part) (n : ℕ) → files_at (part_records parts) n ≡ record_of (get_or parts n no_part).step.files
record_at [] n = refl
record_at (p ∷ parts) zero = refl
record_at (p ∷ parts) (suc n) = record_at parts n

-- a part that must follow another needs it
kept : (same by_rule must role frees both : Bool) → must ≡ true → (same || ((by_rule || (must || role)) && not (frees && (both && not must)))) ≡ true
kept true by_rule must role frees both e = refl
kept false true true role true true e = refl
kept false true true role true false e = refl
kept false true true role false both e = refl
kept false false true role true true e = refl
kept false false true role true false e = refl
kept false false true role false both e = refl
kept false by_rule false role frees both e = absurd (false≢true e)

pub parts_hold : (frees : Bool) (parts : List Part) → list_all part_is_within parts ≡ true → Hold must_follow (part_records parts) (part_needs frees parts)
parts_hold frees parts all = record {
  each = length-needs_behind (part_needs_part frees) [] parts ∙ sym (length-map parts (λ p. record_of p.step.files));
  needed = λ i j h k e.
      let size : length (part_records parts) ≡ length parts = length-map parts (λ p. record_of p.step.files) in
      let earlier : Part = get_or parts i no_part in
      let later : Part = get_or parts j no_part in
      let must : must_follow (record_of earlier.step.files) (record_of later.step.files) ≡ true = sym (λ at. must_follow (record_at parts i at) (record_at parts j at)) ∙ e in
      let whole : must_follow (record_of earlier.whole.step.files) (record_of later.step.files) ≡ true =
      must_follow_whole earlier.step.files earlier.whole.step.files (record_of later.step.files) (part_at parts i all) must in
      needs_each (part_needs_part frees) no_part parts i j h (omega arith)
      (kept (earlier.number == later.number) (earlier.whole.is_rule || (later.whole.is_rule && earlier.whole.step.preprocesses))
      (must_follow (record_of earlier.whole.step.files) (record_of later.step.files)) (role_needs later.step.role earlier.whole.step.role) frees
      (earlier.whole.step.preprocesses && later.step.preprocesses) whole);
}

within : (asks : Asks) (plan : Plan) → list_all part_is_within (parts_of_plan asks plan) ≡ true
within asks plan = parts_within 0 (tasks_of asks plan) (heads-are-within asks plan)

pub parts-hold : PartsHold
parts-hold asks plan = parts_hold asks.frees (parts_of_plan asks plan) (within asks plan)

pub parts-agree : PartsAgree
parts-agree asks plan order effects contents is_order stay =
    orders_agree (records_of_plan asks plan) (needs_of_plan asks plan) order effects contents (parts-hold asks plan) is_order stay

-- by needs of needs
pub closed_hold : (records : List Files) (needs : List (List ℕ)) → Hold must_follow records needs → Hold must_follow records (closed needs)
closed_hold records needs holds = record {
  each = length-closed needs ∙ holds.each;
  needed = λ i j h k e. listed_needed needs j i (holds.needed i j h k e);
}

-- the numbers of tasks rise from part to part
abbrev numbers_from : ℕ → List Task → List ℕ
numbers_from n ts = part_numbers (parts_from n ts)

-- each is a task's
record AreNumbersOf (from count : ℕ) (ns : List ℕ) : Type 0 where
  low : (i : ℕ) → i < length ns → from ≤ get_or ns i 0
  high : (i : ℕ) → i < length ns → get_or ns i 0 < from + count
  rise : (i j : ℕ) → i < j → j < length ns → get_or ns i 0 ≤ get_or ns j 0

-- one more of the first task
one_more : (n count : ℕ) (ns : List ℕ) → AreNumbersOf n (suc count) ns → AreNumbersOf n (suc count) (n ∷ ns)
one_more n count ns are = record {
  low = λ i h. low i h;
  high = λ i h. high i h;
  rise = λ i j h k. rise i j h k;
}
  where
    low : (i : ℕ) → i < suc (length ns) → n ≤ get_or (n ∷ ns) i 0
    low zero h = omega arith
    low (suc i) h = are.low i (omega (arith, h))

    high : (i : ℕ) → i < suc (length ns) → get_or (n ∷ ns) i 0 < n + suc count
    high zero h = omega arith
    high (suc i) h = are.high i (omega (arith, h))

    rise : (i j : ℕ) → i < j → j < suc (length ns) → get_or (n ∷ ns) i 0 ≤ get_or (n ∷ ns) j 0
    rise i zero h k = absurd (omega (arith, h))
    rise zero (suc j) h k = are.low j (omega (arith, k))
    rise (suc i) (suc j) h k = are.rise i j (omega (arith, h)) (omega (arith, k))

-- the first task's, given those of the others
others : (n count : ℕ) (ns : List ℕ) → AreNumbersOf (n + 1) count ns → AreNumbersOf n (suc count) ns
others n count ns are = record {
  low = λ i h. let more : n + 1 ≤ get_or ns i 0 = are.low i h in omega (arith, more);
  high = λ i h. let less : get_or ns i 0 < n + 1 + count = are.high i h in omega (arith, less);
  rise = are.rise;
}

of_head : (n count : ℕ) (t : Task) (head : Option Head) (rest : List Part) → AreNumbersOf n (suc count) (part_numbers rest) → AreNumbersOf n (suc count) (part_numbers (head_of n t head ++ rest))
of_head n count t None rest are = are
of_head n count t (Some h) rest are = one_more n count (part_numbers rest) are

numbers : (n : ℕ) (ts : List Task) → AreNumbersOf n (length ts) (numbers_from n ts)
numbers n [] = record { low = λ i h. absurd (omega (arith, h)); high = λ i h. absurd (omega (arith, h)); rise = λ i j h k. absurd (omega (arith, k)) }
numbers n (t ∷ ts) =
    of_head n (length ts) t t.head (rest_of n t ∷ parts_from (n + 1) ts)
    (one_more n (length ts) (numbers_from (n + 1) ts) (others n (length ts) (numbers_from (n + 1) ts) (numbers (n + 1) ts)))

abbrev task_records : List Task → List Files
task_records ts = map (λ t. record_of t.step.files) ts

are_parts : (ts : List Task) → ArePartsOf (task_records ts) (part_numbers (parts_of ts))
are_parts ts =
    let size : length (task_records ts) ≡ length ts = length-map ts (λ t. record_of t.step.files) in
    let are = numbers 0 ts in
    record {
      of_commands = λ i h. let less : get_or (part_numbers (parts_of ts)) i 0 < 0 + length ts = are.high i h in omega (arith, less, size);
      rise = are.rise;
    }

pub histories-leave-tasks : HistoriesLeaveTasks
histories-leave-tasks asks plan priorities slots setting steps moments effects contents are happened stay all file =
    let records : List Files = records_of_plan asks plan in
    let needs : List (List ℕ) = needs_of_plan asks plan in
    let parts : List Part = parts_of_plan asks plan in
    let tasks : List Task = tasks_of asks plan in
    let holds : Hold must_follow records needs = parts-hold asks plan in
    let numbers_ : List ℕ = part_numbers parts in
    let size : length needs ≡ length numbers_ = length-needs_behind (part_needs_part asks.frees) [] parts ∙ sym (length-map parts (λ p. p.number)) in
    leaves records needs priorities slots setting steps moments happened (closed_hold records needs holds) are effects contents stay all file
    ∙ ap (λ n. contents_after (as_a_whole steps effects) (range_with_len 0 n) contents file) size
    ∙ ap (λ (c : Contents). c file) (as_wholes (task_records tasks) numbers_ (are_parts tasks) (as_a_whole steps effects) contents)
    ∙ ap (λ n. contents_after (as_a_whole numbers_ (as_a_whole steps effects)) (range_with_len 0 n) contents file) (length-map tasks (λ t. record_of t.step.files))

stand_from : (is_own : List ℕ → Bool) (pairs : ℕ → List (List ℕ × List ℕ)) (total : ℕ) (tasks commands : ℕ → Effect) → StandFor is_own pairs total tasks commands
    → (a n : ℕ) → a + n ≡ total → (one other : Contents) → AreAlike is_own (pairs a) one other
    → AreAlike is_own (pairs (a + n)) (contents_after tasks (range_with_len a n) one) (contents_after commands (range_with_len a n) other)
stand_from is_own pairs total tasks commands each a zero e one other is =
    let same : a ≡ a + zero = omega arith in
    subst (λ k. AreAlike is_own (pairs k) one other) same is
stand_from is_own pairs total tasks commands each a (suc n) e one other is =
    let same : a + 1 + n ≡ a + suc n = omega arith in
    subst (λ k. AreAlike is_own (pairs k) (contents_after tasks (range_with_len (a + 1) n) (tasks a one)) (contents_after commands (range_with_len (a + 1) n) (commands a other))) same
    (stand_from is_own pairs total tasks commands each (a + 1) n (omega (arith, e)) (tasks a one) (commands a other) (each a (omega (arith, e)) one other is))

pub tasks-stand-for-plans : TasksStandForPlans
tasks-stand-for-plans is_own pairs count tasks commands one other each is =
    let same : 0 + count ≡ count = omega arith in
    subst (λ k. AreAlike is_own (pairs k) (contents_after tasks (range_with_len 0 count) one) (contents_after commands (range_with_len 0 count) other)) same
    (stand_from is_own pairs count tasks commands each 0 count same one other is)

-- No premise of that can be left out.

abbrev empty : Contents
empty file = None

abbrev full : Contents
full file = Some []

abbrev is_there : Option (List ℕ) → Bool
is_there None = false
is_there (Some text) = true

pub standing-needed : WithoutStanding → ⊥
standing-needed law =
    false≢true (ap is_there ((law (λ file. false) (λ n. []) 1 (λ n contents. contents) (λ n contents. full) empty empty
    (record { others = λ file e. refl; moved = λ n h. absurd (omega (arith, h)) })).others [] refl))

pub likeness-needed : WithoutLikeness → ⊥
likeness-needed law =
    false≢true (ap is_there ((law (λ file. false) (λ n. []) 0 (λ n contents. contents) (λ n contents. contents) empty full (λ n h. absurd (omega (arith, h)))).others [] refl))
