-- What commands leave in files that a schedule orders.
use Rattle.std.specs.Prelude.{◌≡◌, ℕ, ◌<◌, List, [], ◌++◌, true, filter, length}
use Rattle.command_files.specs.Files.{Files, must_follow}
use Rattle.command_files.specs.Order.{is_in, own_order, IsOrder, IsRun, Contents, Effect, contents_after, AllStayWithin, DoesTheSame, Hold}
use Rattle.command_files.specs.Overlap.{ArePartsOf, part_needs, part_records}
use Rattle.schedules.specs.declared.command.AfterFailure.{AfterFailure}
use Rattle.schedules.specs.States.{is_succeeded, state_at}
use Rattle.schedules.specs.Scheduled.{Scheduled}
use Rattle.schedules.specs.Graphs.{fresh}
use Rattle.schedules.specs.Events.{after}
use Rattle.schedule_orders.specs.Closed.{closed}
use Rattle.schedule_orders.specs.Histories.{Moment, events_in, ran_in, parts_of, may_happen}

-- What a part needs: the earlier parts of its command, and all parts of the commands that its command needs, or that these need.
abbrev pub needs_of_parts : List (List ℕ) → List ℕ → List (List ℕ)
needs_of_parts needs parts = part_needs (closed needs) parts

-- all parts, one command after the other: the own order of the graph
abbrev pub own_parts : List (List ℕ) → List ℕ → List ℕ
own_parts needs parts = own_order (needs_of_parts needs parts)

-- A law of each history of each schedule of a graph. Two commands of which either writes a file that the other touches are ordered: the
-- later one needs the earlier one, or needs what needs it.
abbrev pub OfHistories : (List Files → List (List ℕ) → List ℕ → Scheduled → List Moment → Type 0) → Type 0
OfHistories law =
    (records : List Files) (needs : List (List ℕ)) (priorities : List ℕ) (slots : ℕ) (after_failure : AfterFailure) (parts : List ℕ) (moments : List Moment)
    → Hold must_follow records (closed needs)
    → ArePartsOf records parts
    → may_happen parts (fresh needs priorities slots after_failure) [] moments ≡ true
    → law records needs parts (fresh needs priorities slots after_failure) moments

-- the parts that ran are some of all, each once and after all that it needs
abbrev pub EachAfterItsNeeds : Type 0
EachAfterItsNeeds = OfHistories (λ records needs parts s moments. IsRun (needs_of_parts needs parts) (ran_in moments))

-- They are a beginning of an order: with some parts behind them they are an order of all.
pub record IsBeginning (needs : List (List ℕ)) (ran : List ℕ) : Type 0 where
  pub rest : List ℕ
  pub order : IsOrder needs (ran ++ rest)

abbrev pub BeginsAnOrder : Type 0
BeginsAnOrder = OfHistories (λ records needs parts s moments. IsBeginning (needs_of_parts needs parts) (ran_in moments))

-- all commands stay within their records, part by part
abbrev pub PartsStayWithin : List Files → List (List ℕ) → List ℕ → (ℕ → Effect) → Type 0
PartsStayWithin records needs parts effects = AllStayWithin (part_records records parts) (needs_of_parts needs parts) effects

-- then they leave what the parts that ran leave in the graph's own order
abbrev pub LeavesTheirs : Type 0
LeavesTheirs = OfHistories (λ records needs parts s moments. (effects : ℕ → Effect) (contents : Contents)
    → PartsStayWithin records needs parts effects
    → DoesTheSame (part_records records parts) effects contents (ran_in moments) (filter (is_in (ran_in moments)) (own_parts needs parts)))

-- every command has succeeded
abbrev pub AllSucceeded : Scheduled → List Moment → Type 0
AllSucceeded s moments = (n : ℕ) → n < length s.states → is_succeeded (state_at (after s (events_in moments)).states n) ≡ true

-- what a command does, all its parts one after the other
abbrev pub as_a_whole : List ℕ → (ℕ → Effect) → ℕ → Effect
as_a_whole parts effects n = contents_after effects (parts_of parts n)

-- If all commands have succeeded, all files hold what they hold after the commands one after the other, and each part reads the same.
pub record LeavesAll (records : List Files) (needs : List (List ℕ)) (parts : List ℕ) (moments : List Moment) (effects : ℕ → Effect) (contents : Contents) : Type 0 where
  pub leaves : (file : List ℕ) → contents_after effects (ran_in moments) contents file ≡ contents_after (as_a_whole parts effects) (own_order needs) contents file
  pub same : DoesTheSame (part_records records parts) effects contents (ran_in moments) (own_parts needs parts)

abbrev pub LeavesTheProducts : Type 0
LeavesTheProducts = OfHistories (λ records needs parts s moments. (effects : ℕ → Effect) (contents : Contents)
    → PartsStayWithin records needs parts effects
    → AllSucceeded s moments
    → LeavesAll records needs parts moments effects contents)
