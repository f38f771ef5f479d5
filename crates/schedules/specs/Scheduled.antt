-- What a schedule is, and what it says: which command may start next, and whether it is over.
use Rattle.std.specs.Prelude.{ℕ, List, [], ◌∷◌, Bool, ◌&&◌, not, ◌==◌, if◌then◌else◌, Option, Some, None, is_some, length, get_or, nat_lt, slice_set, slice_get}
use Rattle.std.specs.List.{list_all, filter, range_with_len, count_by}
use Rattle.schedules.specs.declared.command.AfterFailure.{AfterFailure}
use Rattle.schedules.specs.declared.command.CommandState.{CommandState}
use Rattle.schedules.specs.declared.command.CommandState.TheVariants.{Running}
use Rattle.schedules.specs.declared.command.Refused.{Refused}
use Rattle.schedules.specs.declared.command.Refused.TheVariants as refusals
use Rattle.schedules.specs.States.{is_waiting, is_running, is_succeeded, state_at, limit}
use Rattle.schedules.specs.Tournament.{better}

-- A schedule: what each command needs and how urgent it is, how many may run at once, what a failure means, and what has become of each
-- command so far.
pub record Scheduled : Type 0 where
  pub needs : List (List ℕ)
  pub priorities : List ℕ
  pub slots : ℕ
  pub after_failure : AfterFailure
  pub states : List CommandState

-- whether all that a command needs have succeeded
abbrev pub are_met : List (List ℕ) → List CommandState → ℕ → Bool
are_met needs states n = list_all (λ m. is_succeeded (state_at states m)) (get_or needs n [])

-- Whether a command may start, if there is a slot: it hasn't started, all that it needs have succeeded, and no failure holds it back.
abbrev pub may_start : Scheduled → ℕ → Bool
may_start s n = is_waiting (state_at s.states n) && (are_met s.needs s.states n && nat_lt n (limit s.after_failure s.states))

-- the commands that may start, if there is a slot
abbrev pub ready : Scheduled → List ℕ
ready s = filter (may_start s) (range_with_len 0 (length s.states))

-- the best one of commands: that of the greatest priority, and of equal ones the first. Nobody, if there is none.
abbrev pub best : List ℕ → List ℕ → ℕ
best priorities [] = length priorities
best priorities (n ∷ ns) = better priorities n (best priorities ns)

-- the number of a command, if it is one
abbrev pub command_of : List ℕ → ℕ → Option ℕ
command_of priorities n = if nat_lt n (length priorities) then Some n else None

-- how many commands run
abbrev pub running : List CommandState → ℕ
running states = count_by is_running states

-- the command that may start next
abbrev pub next : Scheduled → Option ℕ
next s = if nat_lt (running s.states) s.slots then command_of s.priorities (best s.priorities (ready s)) else None

-- nothing runs, and nothing may start
abbrev pub is_over : Scheduled → Bool
is_over s = running s.states == 0 && not (is_some (next s))

-- Events.

-- why a command can't start now
abbrev pub start_refusal : Scheduled → ℕ → Option Refused
start_refusal s n =
    if not (nat_lt n (length s.states)) then Some refusals.NoSuchCommand else
    (if not (is_waiting (state_at s.states n)) then Some refusals.StartedBefore else
    (if not (are_met s.needs s.states n) then Some refusals.NeedsUnmet else
    (if not (nat_lt n (limit s.after_failure s.states)) then Some refusals.HeldBack else
    (if not (nat_lt (running s.states) s.slots) then Some refusals.NoSlot else None))))

-- why a command can't end now
abbrev pub end_refusal : Scheduled → ℕ → Option Refused
end_refusal s n =
    if not (nat_lt n (length s.states)) then Some refusals.NoSuchCommand else
    (if not (is_running (state_at s.states n)) then Some refusals.NotRunning else None)

-- the schedule with another state of a command
abbrev pub with_state : Scheduled → ℕ → CommandState → Scheduled
with_state s n state = record s { states = slice_set s.states n state }

-- the state of a command, if there is one with that number
abbrev pub state_of : Scheduled → ℕ → Option CommandState
state_of s n = slice_get s.states n

-- the schedule after its next command has started, if there is one
abbrev pub after_next : Scheduled → Scheduled
after_next s = elim (next s) [ Some n ↦ with_state s n Running | None ↦ s ]
