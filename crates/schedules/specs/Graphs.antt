-- Graphs of commands: which have a schedule, and the schedule before anything has started.
use Rattle.std.specs.Prelude.{ℕ, ◌+◌, min, List, [], ◌∷◌, ◌++◌, not, ◌==◌, if◌then◌else◌, Option, Some, None, length, map, replicate, get_or, set}
use Rattle.std.specs.List.{fold}
use Rattle.schedules.specs.declared.command.AfterFailure.{AfterFailure}
use Rattle.schedules.specs.declared.command.BadGraph.{BadGraph}
use Rattle.schedules.specs.declared.command.BadGraph.TheVariants.{NoSlot, Priorities, NeedsLater, Memory}
use Rattle.schedules.specs.declared.command.CommandState.TheVariants.{NotStarted}
use Rattle.schedules.specs.Entered.{are_below}
use Rattle.schedules.specs.Scheduled.{Scheduled}

-- the first command that needs one which isn't earlier
abbrev pub first_late : ℕ → List (List ℕ) → Option ℕ
first_late n [] = None
first_late n (ns ∷ rest) = if are_below n ns then first_late (n + 1) rest else Some n

abbrev pub late_fault : Option ℕ → Option BadGraph
late_fault None = None
late_fault (Some n) = Some (NeedsLater n)

-- what is wrong with a graph
abbrev pub graph_fault : List (List ℕ) → ℕ → ℕ → Option BadGraph
graph_fault needs priorities slots =
    if slots == 0 then Some NoSlot else
    (if not (priorities == length needs) then Some Priorities else late_fault (first_late 0 needs))

-- no command has started
abbrev pub fresh : List (List ℕ) → List ℕ → ℕ → AfterFailure → Scheduled
fresh needs priorities slots after_failure = record {
  needs = needs;
  priorities = priorities;
  slots = slots;
  after_failure = after_failure;
  states = replicate (length needs) NotStarted;
}

-- a fact, unless an allocation failed
abbrev pub UnlessMemory : BadGraph → Type 0 → Type 0
UnlessMemory Memory P = Unit {0}
UnlessMemory _ P = P

-- Several plans in one graph.

-- a number behind those of earlier plans. One that is no command's anyway stays the greatest of all.
abbrev pub moved : ℕ → ℕ → ℕ
moved offset n = min (n + offset) 18446744073709551615

-- the needs of plans, the numbers of each behind those of the plans before it
abbrev pub joined_from : ℕ → List (List (List ℕ)) → List (List ℕ)
joined_from offset [] = []
joined_from offset (plan ∷ plans) = map (map (moved offset)) plan ++ joined_from (offset + length plan) plans

-- Who needs whom, the other way round.

-- a row with one more number
abbrev pub with_dependent : ℕ → List (List ℕ) → ℕ → List (List ℕ)
with_dependent n rows m = set rows m (get_or rows m [] ++ n ∷ [])

-- rows with a command noted at each one that it needs, and with all commands from a number on
abbrev pub noted : ℕ → List (List ℕ) → List ℕ → List (List ℕ)
noted n rows ns = fold (with_dependent n) rows ns

abbrev pub all_noted : ℕ → List (List ℕ) → List (List ℕ) → List (List ℕ)
all_noted n rows [] = rows
all_noted n rows (ns ∷ rest) = all_noted (n + 1) (noted n rows ns) rest
