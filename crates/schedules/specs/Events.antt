-- What happens to a schedule, event after event.
use Rattle.std.specs.Prelude.{◌≡◌, ℕ, List, [], ◌∷◌, Bool, true, false, ◌==◌, if◌then◌else◌, Option, None}
use Rattle.schedules.specs.declared.command.CommandState.TheVariants.{Running}
use Rattle.schedules.specs.declared.command.Outcome.{Outcome}
use Rattle.schedules.specs.declared.command.Outcome.TheVariants.{Success}
use Rattle.schedules.specs.declared.command.Refused.{Refused}
use Rattle.schedules.specs.States.{ended_as}
use Rattle.schedules.specs.Scheduled.{Scheduled, start_refusal, end_refusal, with_state}

-- a command starts, or ends
pub data Event : Type 0 where
  Started : ℕ → Event
  Ended : ℕ → Outcome → Event

-- why a schedule refuses an event, and what it is after one that it accepts
abbrev pub refusal : Scheduled → Event → Option Refused
refusal s (Started n) = start_refusal s n
refusal s (Ended n outcome) = end_refusal s n

abbrev pub changed : Scheduled → Event → Scheduled
changed s (Started n) = with_state s n Running
changed s (Ended n outcome) = with_state s n (ended_as outcome)

-- what a schedule is after events
abbrev pub after : Scheduled → List Event → Scheduled
after s [] = s
after s (e ∷ es) = after (changed s e) es

-- a schedule accepts each of the events, one after the other
abbrev pub Accepts : Scheduled → List Event → Type 0
Accepts s [] = Unit {0}
Accepts s (e ∷ es) = (refusal s e ≡ None) × Accepts (changed s e) es

-- What is among events.

abbrev pub is_start : Event → Bool
is_start (Started n) = true
is_start (Ended n outcome) = false

abbrev pub is_end : Event → Bool
is_end (Started n) = false
is_end (Ended n outcome) = true

-- whether an event is the start of a command, its success, or its end without success
abbrev pub is_start_of : ℕ → Event → Bool
is_start_of m (Started n) = n == m
is_start_of m (Ended n outcome) = false

abbrev pub is_success : Outcome → Bool
is_success Success = true
is_success _ = false

abbrev pub is_success_of : ℕ → Event → Bool
is_success_of m (Started n) = false
is_success_of m (Ended n outcome) = if is_success outcome then n == m else false

abbrev pub is_bad_end_of : ℕ → Event → Bool
is_bad_end_of m (Started n) = false
is_bad_end_of m (Ended n outcome) = if is_success outcome then false else n == m
