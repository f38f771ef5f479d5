-- What is said of all histories in which the parts of a plan's tasks run.
use Rattle.std.specs.Prelude.{◌≡◌, ℕ, ◌+◌, ◌<◌, List, [], Bool, true, false, length, get_or, take}
use Rattle.std.specs.List.{list_all, range_with_len}
use Rattle.compilers.specs.declared.plans.plan.Plan.{Plan}
use Rattle.command_files.specs.Files.{Files, must_follow}
use Rattle.command_files.specs.Order.{is_in, Contents, Effect, contents_after, own_order, IsOrder, AllStayWithin, DoesTheSame, Hold}
use Rattle.command_files.specs.Overlap.{ArePartsOf}
use Rattle.schedules.specs.declared.command.AfterFailure.{AfterFailure}
use Rattle.schedules.specs.Graphs.{fresh}
use Rattle.schedule_orders.specs.Histories.{Moment, may_happen, ran_in}
use Rattle.schedule_orders.specs.Products.{AllSucceeded, PartsStayWithin, as_a_whole}
use Rattle.schedule_orders.specs.Withheld.{Act, IsGiven, IsWritten, may_act, moments_of, readers_wait}
use Rattle.call_tasks.specs.declared.task.Asks.{Asks}
use Rattle.call_tasks.specs.Parts.{Part, has_head_within, part_needs, part_numbers, part_records, parts_of}
use Rattle.call_tasks.specs.Tasks.{tasks_of}

-- the parts of what is started of a plan, with their records and needs
abbrev pub parts_of_plan : Asks → Plan → List Part
parts_of_plan asks plan = parts_of (tasks_of asks plan)

abbrev pub records_of_plan : Asks → Plan → List Files
records_of_plan asks plan = part_records (parts_of_plan asks plan)

abbrev pub needs_of_plan : Asks → Plan → List (List ℕ)
needs_of_plan asks plan = part_needs asks.frees (parts_of_plan asks plan)

-- what a head touches is of its task's record
abbrev pub HeadsAreWithin : Type 0
HeadsAreWithin = (asks : Asks) (plan : Plan) → list_all has_head_within (tasks_of asks plan) ≡ true

-- parts are ordered of which either writes a file that the other touches: a head begins beside no task that shares such a file with it
abbrev pub PartsHold : Type 0
PartsHold = (asks : Asks) (plan : Plan) → Hold must_follow (records_of_plan asks plan) (needs_of_plan asks plan)

-- every order by these needs does what the parts' own order does
abbrev pub PartsAgree : Type 0
PartsAgree =
    (asks : Asks) (plan : Plan) (order : List ℕ) (effects : ℕ → Effect) (contents : Contents)
    → IsOrder (needs_of_plan asks plan) order
    → AllStayWithin (records_of_plan asks plan) (needs_of_plan asks plan) effects
    → DoesTheSame (records_of_plan asks plan) effects contents order (own_order (needs_of_plan asks plan))

-- what a task does: its head, and then the rest
abbrev pub task_effects : Asks → Plan → (ℕ → Effect) → ℕ → Effect
task_effects asks plan effects = as_a_whole (part_numbers (parts_of_plan asks plan)) effects

abbrev pub numbers_of_tasks : Asks → Plan → List ℕ
numbers_of_tasks asks plan = range_with_len 0 (length (tasks_of asks plan))

-- In a history each part runs in steps, between which others' steps run. If all parts have succeeded and stayed within their records, every
-- file holds what it holds after the tasks one after the other.
abbrev pub HistoriesLeaveTasks : Type 0
HistoriesLeaveTasks =
    (asks : Asks) (plan : Plan) (priorities : List ℕ) (slots : ℕ) (after_failure : AfterFailure) (steps : List ℕ) (moments : List Moment)
    (effects : ℕ → Effect) (contents : Contents)
    → ArePartsOf (records_of_plan asks plan) steps
    → may_happen steps (fresh (needs_of_plan asks plan) priorities slots after_failure) [] moments ≡ true
    → PartsStayWithin (records_of_plan asks plan) (needs_of_plan asks plan) steps effects
    → AllSucceeded (fresh (needs_of_plan asks plan) priorities slots after_failure) moments
    → (file : List ℕ)
    → contents_after effects (ran_in moments) contents file
    ≡ contents_after (task_effects asks plan (as_a_whole steps effects)) (numbers_of_tasks asks plan) contents file

-- A part waits for a file if it isn't its task's first: its process has begun as the head, and finds the file late.
abbrev pub waits_in : List ℕ → ℕ → Bool
waits_in numbers n = is_in (take n numbers) (get_or numbers n 0)

abbrev pub waits_of_plan : Asks → Plan → ℕ → Bool
waits_of_plan asks plan = waits_in (part_numbers (parts_of_plan asks plan))

-- What holds of the histories in which these parts are given their files: they leave what the tasks leave one after the other, and what a part
-- is given is what its writers wrote.
pub record LeavesAndGives (asks : Asks) (plan : Plan) (after_failure : AfterFailure) (priorities : List ℕ) (slots : ℕ) (steps : List ℕ) (acts : List Act)
    (effects : ℕ → Effect) (contents : Contents) : Type 0 where
  pub leaves :
      AllSucceeded (fresh (needs_of_plan asks plan) priorities slots after_failure) (moments_of acts)
      → (file : List ℕ)
      → contents_after effects (ran_in (moments_of acts)) contents file
      ≡ contents_after (task_effects asks plan (as_a_whole steps effects)) (numbers_of_tasks asks plan) contents file
  pub gives :
      (before : List Act) (n i : ℕ)
      → IsGiven (waits_of_plan asks plan) steps acts before n i
      → IsWritten (records_of_plan asks plan) (needs_of_plan asks plan) steps (ran_in (moments_of before)) n i effects contents

-- The premise about the kernel is `readers_wait`; in place of `may_happen` there is what the driver does, `may_act`.
abbrev pub WithheldFilesAreWritten : Type 0
WithheldFilesAreWritten =
    (asks : Asks) (plan : Plan) (priorities : List ℕ) (slots : ℕ) (after_failure : AfterFailure) (steps : List ℕ) (acts : List Act)
    (effects : ℕ → Effect) (contents : Contents)
    → ArePartsOf (records_of_plan asks plan) steps
    → may_act (waits_of_plan asks plan) steps (fresh (needs_of_plan asks plan) priorities slots after_failure) [] [] [] acts ≡ true
    → readers_wait [] acts ≡ true
    → PartsStayWithin (records_of_plan asks plan) (needs_of_plan asks plan) steps effects
    → LeavesAndGives asks plan after_failure priorities slots steps acts effects contents

-- The last premise is of the tools: what a task leaves stands for what its command leaves. Contents with tasks and those with the plan's
-- commands are the same but for the driver's own files, and some of these hold what other files hold with the plan's commands: the first of
-- each pair holds what the second does.
pub record AreAlike (is_own : List ℕ → Bool) (pairs : List (List ℕ × List ℕ)) (one other : Contents) : Type 0 where
  pub others : (file : List ℕ) → is_own file ≡ false → one file ≡ other file
  pub moved : (n : ℕ) → n < length pairs → one (get_or pairs n ([], [])).0 ≡ other (get_or pairs n ([], [])).1

-- each task has such contents after it if it had them before; `pairs` has those before each task
abbrev pub StandFor : (List ℕ → Bool) → (ℕ → List (List ℕ × List ℕ)) → ℕ → (ℕ → Effect) → (ℕ → Effect) → Type 0
StandFor is_own pairs count tasks commands =
    (n : ℕ) → n < count → (one other : Contents) → AreAlike is_own (pairs n) one other → AreAlike is_own (pairs (n + 1)) (tasks n one) (commands n other)

abbrev pub TasksStandForPlans : Type 0
TasksStandForPlans =
    (is_own : List ℕ → Bool) (pairs : ℕ → List (List ℕ × List ℕ)) (count : ℕ) (tasks commands : ℕ → Effect) (one other : Contents)
    → StandFor is_own pairs count tasks commands
    → AreAlike is_own (pairs 0) one other
    → AreAlike is_own (pairs count) (contents_after tasks (range_with_len 0 count) one) (contents_after commands (range_with_len 0 count) other)

-- The same without one of its premises: tasks do what they like, or files differ before they run.
abbrev pub WithoutStanding : Type 0
WithoutStanding =
    (is_own : List ℕ → Bool) (pairs : ℕ → List (List ℕ × List ℕ)) (count : ℕ) (tasks commands : ℕ → Effect) (one other : Contents)
    → AreAlike is_own (pairs 0) one other
    → AreAlike is_own (pairs count) (contents_after tasks (range_with_len 0 count) one) (contents_after commands (range_with_len 0 count) other)

abbrev pub WithoutLikeness : Type 0
WithoutLikeness =
    (is_own : List ℕ → Bool) (pairs : ℕ → List (List ℕ × List ℕ)) (count : ℕ) (tasks commands : ℕ → Effect) (one other : Contents)
    → StandFor is_own pairs count tasks commands
    → AreAlike is_own (pairs count) (contents_after tasks (range_with_len 0 count) one) (contents_after commands (range_with_len 0 count) other)
