-- What happens while a caller follows a schedule: the caller notes events, and parts of commands run.
use Rattle.std.specs.Prelude.{ℕ, List, [], ◌∷◌, Bool, true, false, ◌&&◌, ◌==◌, not, if◌then◌else◌, Option, Some, None, length, get_or, take, nat_lt}
use Rattle.std.specs.List.{list_all}
use Rattle.schedules.specs.declared.command.Refused.{Refused}
use Rattle.schedules.specs.States.{is_running, state_at}
use Rattle.schedules.specs.Scheduled.{Scheduled}
use Rattle.schedules.specs.Events.{Event, Started, Ended, is_success, refusal, changed}
use Rattle.command_files.specs.Order.{numbers_where, is_in}

-- A command may be cut into parts, which run one after the other, as in the law `overlaps`: `parts` has the command of each. Between a
-- command's parts others' may run.
pub data Moment : Type 0 where
  Tells : Event → Moment
  Runs : ℕ → Moment

abbrev pub events_in : List Moment → List Event
events_in [] = []
events_in (Tells e ∷ ms) = e ∷ events_in ms
events_in (Runs i ∷ ms) = events_in ms

-- the parts that run
abbrev pub ran_in : List Moment → List ℕ
ran_in [] = []
ran_in (Tells e ∷ ms) = ran_in ms
ran_in (Runs i ∷ ms) = i ∷ ran_in ms

-- the numbers of a command's parts
abbrev pub parts_of : List ℕ → ℕ → List ℕ
parts_of parts n = numbers_where (λ p. p == n) 0 parts

-- whether a part may run: its command runs, it hasn't run itself, and the earlier parts of its command have
abbrev pub may_run : List ℕ → Scheduled → List ℕ → ℕ → Bool
may_run parts s done i =
    nat_lt i (length parts)
    && (is_running (state_at s.states (get_or parts i 0)) && (not (is_in done i) && list_all (is_in done) (parts_of (take i parts) (get_or parts i 0))))

-- whether a command that ends has come to its end: with success, if all its parts have run
abbrev pub may_end : List ℕ → List ℕ → Event → Bool
may_end parts done (Started n) = true
may_end parts done (Ended n outcome) = if is_success outcome then list_all (is_in done) (parts_of parts n) else true

abbrev pub is_accepted : Option Refused → Bool
is_accepted None = true
is_accepted (Some refused) = false

-- Whether all of this may happen, if some parts have run already: the schedule accepts each event, a command's parts run while it runs,
-- in their order and each once, and it has run to its end when the caller notes its success.
abbrev pub may_happen : List ℕ → Scheduled → List ℕ → List Moment → Bool
may_happen parts s done [] = true
may_happen parts s done (Tells e ∷ ms) = is_accepted (refusal s e) && (may_end parts done e && may_happen parts (changed s e) done ms)
may_happen parts s done (Runs i ∷ ms) = may_run parts s done i && may_happen parts s (i ∷ done) ms
