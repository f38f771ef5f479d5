-- What events do to the states of commands.
use Rattle.std.proofs.Common.{◌≡◌, ℕ, ◌+◌, ◌<◌, ◌≤◌, ◌≢◌, ◌⊎◌, inl, inr, List, [], ◌∷◌, ◌++◌, Bool, true, false, cond, ◌||◌, ◌==◌, length, set, refl, sym, ap, subst, ◌∙◌, arith}
use Rattle.std.specs.List.{list_any, count_by, sum_by}
use Rattle.std.proofs.lemmas.Bool.{false≢true, eqb-true, eqb-false}
use Rattle.std.proofs.lemmas.List.{length-set, get_or-set_same, get_or-set_other}
use Rattle.std.proofs.lemmas.List.Sums.{sum_by-cons, sum_by-set}
use Rattle.schedules.specs.declared.command.CommandState.{CommandState}
use Rattle.schedules.specs.declared.command.CommandState.TheVariants as kinds
use Rattle.schedules.specs.declared.command.Outcome.{Outcome}
use Rattle.schedules.specs.declared.command.Outcome.TheVariants as outcomes
use Rattle.schedules.specs.States.{is_waiting, is_running, is_succeeded, is_bad, state_at, ended_as}
use Rattle.schedules.specs.Scheduled.{Scheduled, running, with_state}
use Rattle.schedules.specs.Events.{Event, Started, Ended, changed, after, Accepts, is_start, is_end, is_start_of, is_success, is_success_of, is_bad_end_of}
use Rattle.schedules.proofs.KeptLemmas.{CanStart, CanEnd, can_start, can_end}
use Rattle.schedules.proofs.StateLemmas.{count-set}

pub accepts_first : (s : Scheduled) (one other : List Event) → Accepts s (one ++ other) → Accepts s one
accepts_first s [] other h = tt
accepts_first s (e ∷ es) other h = (h.0, accepts_first (changed s e) es other h.1)

pub accepts_second : (s : Scheduled) (one other : List Event) → Accepts s (one ++ other) → Accepts (after s one) other
accepts_second s [] other h = h
accepts_second s (e ∷ es) other h = accepts_second (changed s e) es other h.1

-- the state of a command after an event, by whether it is that command's
state_now : (s : Scheduled) (n m : ℕ) (state : CommandState) → n < length s.states → state_at (with_state s n state).states m ≡ cond (n == m) state (state_at s.states m)
state_now s n m state h =
    elim (n == m) as (λ t. (n == m) ≡ t → state_at (set s.states n state) m ≡ cond t state (state_at s.states m)) [
      | true ↦ λ e. subst (λ j. state_at (set s.states n state) j ≡ state) (eqb-true n m e) (get_or-set_same s.states n state kinds.NotStarted h)
      | false ↦ λ e. get_or-set_other s.states n m state kinds.NotStarted (λ f. eqb-false n m e (sym f))
    ] refl

-- what stays the same
pub only_states : (s : Scheduled) (es : List Event) → after s es ≡ record s { states = (after s es).states }
only_states s [] = refl
only_states s (Started n ∷ es) = only_states (with_state s n kinds.Running) es
only_states s (Ended n o ∷ es) = only_states (with_state s n (ended_as o)) es

pub same_count : (s : Scheduled) (es : List Event) → length (after s es).states ≡ length s.states
same_count s [] = refl
same_count s (Started n ∷ es) = same_count (with_state s n kinds.Running) es ∙ length-set s.states n kinds.Running
same_count s (Ended n o ∷ es) = same_count (with_state s n (ended_as o)) es ∙ length-set s.states n (ended_as o)

-- No command starts twice.

abbrev pub one_if : Bool → ℕ
one_if b = cond b 1 0

ended_waits : (o : Outcome) → is_waiting (ended_as o) ≡ false
ended_waits outcomes.Success = refl
ended_waits outcomes.Failure = refl
ended_waits outcomes.Cancelled = refl

start_by : (t waits : Bool) (starts rest : ℕ) → rest ≤ one_if (cond t false waits) → starts ≡ one_if t + rest → (t ≡ true → waits ≡ true) → starts ≤ one_if waits
start_by t waits starts rest h e f = grind arith

still_by : (t waits : Bool) (rest : ℕ) → rest ≤ one_if (cond t false waits) → rest ≤ one_if waits
still_by t waits rest h = grind arith

waits_now : (s : Scheduled) (n m : ℕ) (state : CommandState) → n < length s.states → is_waiting state ≡ false → is_waiting (state_at (with_state s n state).states m) ≡ cond (n == m) false (is_waiting (state_at s.states m))
waits_now s n m state h e =
    ap is_waiting (state_now s n m state h)
    ∙ elim (n == m) as (λ t. is_waiting (cond t state (state_at s.states m)) ≡ cond t false (is_waiting (state_at s.states m))) [ true ↦ e | false ↦ refl ]

pub starts_once : (s : Scheduled) (es : List Event) (m : ℕ) → Accepts s es → count_by (is_start_of m) es ≤ one_if (is_waiting (state_at s.states m))
starts_once s [] m h = omega arith
starts_once s (Started n ∷ es) m h =
    let can : CanStart s n = can_start s n h.0 in
    let now : is_waiting (state_at (with_state s n kinds.Running).states m) ≡ cond (n == m) false (is_waiting (state_at s.states m)) = waits_now s n m kinds.Running can.there refl in
    let rest : count_by (is_start_of m) es ≤ one_if (cond (n == m) false (is_waiting (state_at s.states m))) = subst (λ b. count_by (is_start_of m) es ≤ one_if b) now (starts_once (with_state s n kinds.Running) es m h.1) in
    start_by (n == m) (is_waiting (state_at s.states m)) (count_by (is_start_of m) (Started n ∷ es)) (count_by (is_start_of m) es) rest
    (sum_by-cons (λ e. cond (is_start_of m e) 1 0) (Started n) es)
    (λ e. subst (λ j. is_waiting (state_at s.states j) ≡ true) (eqb-true n m e) (ap is_waiting can.waits))
starts_once s (Ended n o ∷ es) m h =
    let now : is_waiting (state_at (with_state s n (ended_as o)).states m) ≡ cond (n == m) false (is_waiting (state_at s.states m)) = waits_now s n m (ended_as o) (can_end s n h.0).there (ended_waits o) in
    let rest : count_by (is_start_of m) es ≤ one_if (cond (n == m) false (is_waiting (state_at s.states m))) = subst (λ b. count_by (is_start_of m) es ≤ one_if b) now (starts_once (with_state s n (ended_as o)) es m h.1) in
    omega (arith, sum_by-cons (λ e. cond (is_start_of m e) 1 0) (Ended n o) es, still_by (n == m) (is_waiting (state_at s.states m)) (count_by (is_start_of m) es) rest)

-- What has succeeded, succeeded by an event.

or_front : (b c : Bool) → b ≡ true → (b || c) ≡ true
or_front true c e = refl
or_front false c e = absurd (false≢true e)

or_back : (b c : Bool) → c ≡ true → (b || c) ≡ true
or_back true c e = refl
or_back false c e = e

ended_succeeds : (o : Outcome) → is_succeeded (ended_as o) ≡ is_success o
ended_succeeds outcomes.Success = refl
ended_succeeds outcomes.Failure = refl
ended_succeeds outcomes.Cancelled = refl

-- at one event
success_of : (s : Scheduled) (n m : ℕ) (o : Outcome) → n < length s.states → is_succeeded (state_at (with_state s n (ended_as o)).states m) ≡ true → (is_succeeded (state_at s.states m) ≡ true) ⊎ (is_success_of m (Ended n o) ≡ true)
success_of s n m o h e = by (n == m) refl (ap is_succeeded (sym (state_now s n m (ended_as o) h)) ∙ e)
  where
    by : (t : Bool) → (n == m) ≡ t → is_succeeded (cond t (ended_as o) (state_at s.states m)) ≡ true → (is_succeeded (state_at s.states m) ≡ true) ⊎ (is_success_of m (Ended n o) ≡ true)
    by true f g = inr (ap (λ b. cond b (n == m) false) (sym (ended_succeeds o) ∙ g) ∙ f)
    by false f g = inl g

running_is_no_success : (s : Scheduled) (n m : ℕ) → n < length s.states → is_succeeded (state_at (with_state s n kinds.Running).states m) ≡ true → is_succeeded (state_at s.states m) ≡ true
running_is_no_success s n m h e =
    elim (n == m) as (λ t. is_succeeded (cond t kinds.Running (state_at s.states m)) ≡ true → is_succeeded (state_at s.states m) ≡ true) [
      | true ↦ λ never. absurd (false≢true never)
      | false ↦ λ was. was
    ] (ap is_succeeded (sym (state_now s n m kinds.Running h)) ∙ e)

pub by_success : (s : Scheduled) (es : List Event) (m : ℕ) → Accepts s es → is_succeeded (state_at (after s es).states m) ≡ true → (is_succeeded (state_at s.states m) ≡ true) ⊎ (list_any (is_success_of m) es ≡ true)
by_success s [] m h e = inl e
by_success s (Started n ∷ es) m h e =
    elim (by_success (with_state s n kinds.Running) es m h.1 e) [
      | inl was ↦ inl (running_is_no_success s n m (can_start s n h.0).there was)
      | inr later ↦ inr later
    ]
by_success s (Ended n o ∷ es) m h e =
    elim (by_success (with_state s n (ended_as o)) es m h.1 e) [
      | inl was ↦
          elim (success_of s n m o (can_end s n h.0).there was) [
            | inl before ↦ inl before
            | inr now ↦ inr (or_front (is_success_of m (Ended n o)) (list_any (is_success_of m) es) now)
          ]
      | inr later ↦ inr (or_back (is_success_of m (Ended n o)) (list_any (is_success_of m) es) later)
    ]

-- What has ended without success stays so.

ended_bad : (o : Outcome) → is_success o ≡ false → is_bad (ended_as o) ≡ true
ended_bad outcomes.Success e = absurd (false≢true (sym e))
ended_bad outcomes.Failure e = refl
ended_bad outcomes.Cancelled e = refl

-- another command keeps its state
kept_state : (s : Scheduled) (n m : ℕ) (state : CommandState) → m ≢ n → state_at (with_state s n state).states m ≡ state_at s.states m
kept_state s n m state other = get_or-set_other s.states n m state kinds.NotStarted other

pub stays_bad : (s : Scheduled) (es : List Event) (m : ℕ) → Accepts s es → is_bad (state_at s.states m) ≡ true → is_bad (state_at (after s es).states m) ≡ true
stays_bad s [] m h e = e
stays_bad s (Started n ∷ es) m h e =
    let other : m ≢ n = λ f. false≢true (sym (ap is_bad (can_start s n h.0).waits) ∙ subst (λ j. is_bad (state_at s.states j) ≡ true) f e) in
    stays_bad (with_state s n kinds.Running) es m h.1 (ap is_bad (kept_state s n m kinds.Running other) ∙ e)
stays_bad s (Ended n o ∷ es) m h e =
    let other : m ≢ n = λ f. false≢true (sym (ap is_bad (can_end s n h.0).runs) ∙ subst (λ j. is_bad (state_at s.states j) ≡ true) f e) in
    stays_bad (with_state s n (ended_as o)) es m h.1 (ap is_bad (kept_state s n m (ended_as o) other) ∙ e)

pub either : (b c : Bool) → (b || c) ≡ true → (b ≡ true) ⊎ (c ≡ true)
either true c e = inl refl
either false c e = inr e

bad_end : (o : Outcome) (t : Bool) → cond (is_success o) false t ≡ true → (is_success o ≡ false) × (t ≡ true)
bad_end outcomes.Success t e = absurd (false≢true e)
bad_end outcomes.Failure t e = (refl, e)
bad_end outcomes.Cancelled t e = (refl, e)

pub bad_by_event : (s : Scheduled) (es : List Event) (m : ℕ) → Accepts s es → list_any (is_bad_end_of m) es ≡ true → is_bad (state_at (after s es).states m) ≡ true
bad_by_event s [] m h e = absurd (false≢true e)
bad_by_event s (Started n ∷ es) m h e = bad_by_event (with_state s n kinds.Running) es m h.1 e
bad_by_event s (Ended n o ∷ es) m h e =
    elim (either (is_bad_end_of m (Ended n o)) (list_any (is_bad_end_of m) es) e) [
      | inl now ↦
          let both : (is_success o ≡ false) × ((n == m) ≡ true) = bad_end o (n == m) now in
          let is : n ≡ m = eqb-true n m both.1 in
          stays_bad (with_state s n (ended_as o)) es m h.1
          (subst (λ j. is_bad (state_at (with_state s n (ended_as o)).states j) ≡ true) is (ap is_bad (get_or-set_same s.states n (ended_as o) kinds.NotStarted (can_end s n h.0).there) ∙ ended_bad o both.0))
      | inr later ↦ bad_by_event (with_state s n (ended_as o)) es m h.1 later
    ]

-- How many run, and how many events are left.

ended_runs : (o : Outcome) → is_running (ended_as o) ≡ false
ended_runs outcomes.Success = refl
ended_runs outcomes.Failure = refl
ended_runs outcomes.Cancelled = refl

one_more_runs : (s : Scheduled) (n : ℕ) → CanStart s n → running (with_state s n kinds.Running).states ≡ running s.states + 1
one_more_runs s n can = omega (arith, count-set is_running s.states n kinds.Running can.there, ap (λ state. one_if (is_running state)) can.waits)

one_less_runs : (s : Scheduled) (n : ℕ) (o : Outcome) → CanEnd s n → running (with_state s n (ended_as o)).states + 1 ≡ running s.states
one_less_runs s n o can =
    omega (arith, count-set is_running s.states n (ended_as o) can.there, ap (λ state. one_if (is_running state)) can.runs, ap one_if (ended_runs o))

count_start : (n : ℕ) (es : List Event) → (count_by is_start (Started n ∷ es) ≡ 1 + count_by is_start es) × (count_by is_end (Started n ∷ es) ≡ 0 + count_by is_end es)
count_start n es = (sum_by-cons (λ e. cond (is_start e) 1 0) (Started n) es, sum_by-cons (λ e. cond (is_end e) 1 0) (Started n) es)

count_end : (n : ℕ) (o : Outcome) (es : List Event) → (count_by is_start (Ended n o ∷ es) ≡ 0 + count_by is_start es) × (count_by is_end (Ended n o ∷ es) ≡ 1 + count_by is_end es)
count_end n o es = (sum_by-cons (λ e. cond (is_start e) 1 0) (Ended n o) es, sum_by-cons (λ e. cond (is_end e) 1 0) (Ended n o) es)

-- those that run have started and not ended
pub runs_are : (s : Scheduled) (es : List Event) → Accepts s es → count_by is_start es + running s.states ≡ count_by is_end es + running (after s es).states
runs_are s [] h = refl
runs_are s (Started n ∷ es) h =
    let counts = count_start n es in
    omega (arith, one_more_runs s n (can_start s n h.0), runs_are (with_state s n kinds.Running) es h.1, counts.0, counts.1)
runs_are s (Ended n o ∷ es) h =
    let counts = count_end n o es in
    omega (arith, one_less_runs s n o (can_end s n h.0), runs_are (with_state s n (ended_as o)) es h.1, counts.0, counts.1)

pub runs_within : (s : Scheduled) (es : List Event) → Accepts s es → running s.states ≤ s.slots → running (after s es).states ≤ s.slots
runs_within s [] h le = le
runs_within s (Started n ∷ es) h le =
    let can : CanStart s n = can_start s n h.0 in
    runs_within (with_state s n kinds.Running) es h.1 (omega (arith, one_more_runs s n can, can.room))
runs_within s (Ended n o ∷ es) h le = runs_within (with_state s n (ended_as o)) es h.1 (omega (arith, one_less_runs s n o (can_end s n h.0), le))

-- how many events a command still has
abbrev pub events_left : CommandState → ℕ
events_left kinds.NotStarted = 2
events_left kinds.Running = 1
events_left kinds.Succeeded = 0
events_left kinds.Failed = 0
events_left kinds.Cancelled = 0

abbrev pub all_left : List CommandState → ℕ
all_left states = sum_by events_left states

left_ended : (o : Outcome) → events_left (ended_as o) ≡ 0
left_ended outcomes.Success = refl
left_ended outcomes.Failure = refl
left_ended outcomes.Cancelled = refl

pub events_fit : (s : Scheduled) (es : List Event) → Accepts s es → length es + all_left (after s es).states ≡ all_left s.states
events_fit s [] h = omega arith
events_fit s (Started n ∷ es) h =
    let can : CanStart s n = can_start s n h.0 in
    omega (arith, sum_by-set events_left s.states n kinds.Running kinds.NotStarted can.there, ap events_left can.waits, events_fit (with_state s n kinds.Running) es h.1)
events_fit s (Ended n o ∷ es) h =
    let can : CanEnd s n = can_end s n h.0 in
    omega (arith, sum_by-set events_left s.states n (ended_as o) kinds.NotStarted can.there, ap events_left can.runs, left_ended o, events_fit (with_state s n (ended_as o)) es h.1)
