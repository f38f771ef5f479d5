-- What holds of every schedule, whatever its caller does and however commands end.
use Rattle.std.specs.Prelude.{◌≡◌, ◌⊎◌, ℕ, zero, suc, ◌+◌, ◌<◌, ◌≤◌, List, [], ◌∷◌, ◌++◌, Bool, true, false, ◌==◌, if◌then◌else◌, None, length, get_or}
use Rattle.std.specs.List.{list_any, count_by}
use Rattle.schedules.specs.declared.command.AfterFailure.{AfterFailure}
use Rattle.schedules.specs.declared.command.AfterFailure.TheVariants.{StartNothing, StartEarlier, GoOn}
use Rattle.schedules.specs.declared.command.Outcome.TheVariants.{Success, Failure, Cancelled}
use Rattle.schedules.specs.declared.command.PlanStatus.TheVariants as statuses
use Rattle.schedules.specs.declared.command.Told.{Told}
use Rattle.schedules.specs.States.{is_succeeded, state_at, first_bad}
use Rattle.schedules.specs.Scheduled.{Scheduled, is_over}
use Rattle.schedules.specs.Graphs.{graph_fault, fresh}
use Rattle.schedules.specs.Events.{Event, Started, Ended, after, Accepts, is_start, is_end, is_start_of, is_success_of, is_bad_end_of}
use Rattle.schedules.specs.Told.{told}

-- a law of each schedule that is made of a good graph, and of the events that it accepts from the beginning on
abbrev pub OfSchedules : (Scheduled → List Event → Type 0) → Type 0
OfSchedules law =
    (needs : List (List ℕ)) (priorities : List ℕ) (slots : ℕ) (after_failure : AfterFailure) (events : List Event)
    → graph_fault needs (length priorities) slots ≡ None
    → Accepts (fresh needs priorities slots after_failure) events
    → law (fresh needs priorities slots after_failure) events

-- before a command starts, each one that it needs has succeeded
abbrev pub NeedsSucceedFirst : Type 0
NeedsSucceedFirst = OfSchedules (λ s events. (before : List Event) (n m : ℕ) → events ≡ before ++ Started n ∷ [] → list_any (λ k. k == m) (get_or s.needs n []) ≡ true → list_any (is_success_of m) before ≡ true)

-- no command starts twice
abbrev pub StartsOnce : Type 0
StartsOnce = OfSchedules (λ s events. (n : ℕ) → count_by (is_start_of n) events ≤ 1)

-- never more run than there are slots
abbrev pub SlotsSuffice : Type 0
SlotsSuffice = OfSchedules (λ s events. count_by is_start events ≤ count_by is_end events + s.slots)

-- which commands may start after one that ended without success
abbrev pub MayFollow : AfterFailure → ℕ → ℕ → Type 0
MayFollow StartNothing bad n = ⊥
MayFollow StartEarlier bad n = n < bad
MayFollow GoOn bad n = Unit {0}

abbrev pub FailuresCount : Type 0
FailuresCount = OfSchedules (λ s events. (before : List Event) (n m : ℕ) → events ≡ before ++ Started n ∷ [] → list_any (is_bad_end_of m) before ≡ true → MayFollow s.after_failure m n)

-- there are at most twice as many events as commands
abbrev pub EventsEnd : Type 0
EventsEnd = OfSchedules (λ s events. length events ≤ length s.states + length s.states)

-- A schedule that is over has come to all that it can: each command that is earlier than all that ended without success has succeeded.
abbrev pub StartsEarlier : AfterFailure → Bool
StartsEarlier StartNothing = false
StartsEarlier _ = true

abbrev pub NeverStuck : Type 0
NeverStuck = OfSchedules (λ s events. is_over (after s events) ≡ true → (n : ℕ) → n < first_bad (after s events).states
    → (StartsEarlier s.after_failure ≡ true) ⊎ (first_bad (after s events).states ≡ length s.states)
    → is_succeeded (state_at (after s events).states n) ≡ true)

-- What is printed.

-- what the plan's own order prints of commands from a number on, one after the other up to the first failure
abbrev pub told_in_order : (ℕ → Bool) → ℕ → ℕ → Told
told_in_order succeeds n zero = record { end = n; status = statuses.Succeeded }
told_in_order succeeds n (suc left) = if succeeds n then told_in_order succeeds (n + 1) left else record { end = n + 1; status = statuses.Failed }

-- commands end as they do in the plan's own order, and only such are cancelled as it doesn't come to
abbrev pub EndsAs : (ℕ → Bool) → ℕ → Event → Type 0
EndsAs succeeds end (Started n) = Unit {0}
EndsAs succeeds end (Ended n Success) = succeeds n ≡ true
EndsAs succeeds end (Ended n Failure) = succeeds n ≡ false
EndsAs succeeds end (Ended n Cancelled) = end ≤ n

abbrev pub AllEndAs : (ℕ → Bool) → ℕ → List Event → Type 0
AllEndAs succeeds end [] = Unit {0}
AllEndAs succeeds end (e ∷ es) = EndsAs succeeds end e × AllEndAs succeeds end es

-- a schedule that is over has let exactly that be printed which the plan's own order prints
abbrev pub ToldInOrder : Type 0
ToldInOrder = OfSchedules (λ s events. (succeeds : ℕ → Bool)
    → AllEndAs succeeds (told_in_order succeeds 0 (length s.states)).end events
    → StartsEarlier s.after_failure ≡ true
    → is_over (after s events) ≡ true
    → told (after s events).states 0 (length s.states) ≡ told_in_order succeeds 0 (length s.states))

-- and before, and if nothing starts after a failure, no more than that
abbrev pub NothingElseTold : Type 0
NothingElseTold = OfSchedules (λ s events. (succeeds : ℕ → Bool)
    → AllEndAs succeeds (told_in_order succeeds 0 (length s.states)).end events
    → (told (after s events).states 0 (length s.states)).end ≤ (told_in_order succeeds 0 (length s.states)).end)
