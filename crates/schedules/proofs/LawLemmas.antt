-- The laws of schedules.
use Rattle.std.proofs.Common.{◌≡◌, ℕ, zero, suc, ◌+◌, ◌-◌, ◌<◌, ◌≤◌, ◌⊎◌, inl, inr, List, [], ◌∷◌, ◌++◌, Bool, true, false, cond, ◌&&◌, ◌==◌, Option, Some, None, length, get_or, set, drop, take, replicate, refl, sym, ap, subst, ◌∙◌, arith}
use Rattle.std.specs.Prelude.{nat_lt, not, is_some}
use Rattle.std.specs.List.{list_any, list_all, count_by}
use Rattle.std.proofs.lemmas.Bool.{false≢true, and_parts, eqb-true, eqb-false, lt-ltb, ltb-true, ltb-false}
use Rattle.std.proofs.lemmas.Bool.Decides.{nat_tests}
use Rattle.std.proofs.lemmas.List.{length-replicate, drop_all, drop_more, take_all, get_or-set_same, get_or-set_other}
use Rattle.std.proofs.lemmas.List.Sums.{sum_by-cons}
use Rattle.schedules.specs.declared.command.AfterFailure.{AfterFailure}
use Rattle.schedules.specs.declared.command.AfterFailure.TheVariants.{StartNothing, StartEarlier, GoOn}
use Rattle.schedules.specs.declared.command.CommandState.{CommandState}
use Rattle.schedules.specs.declared.command.CommandState.TheVariants as kinds
use Rattle.schedules.specs.declared.command.Outcome.{Outcome}
use Rattle.schedules.specs.declared.command.Outcome.TheVariants as outcomes
use Rattle.schedules.specs.declared.command.PlanStatus.TheVariants as statuses
use Rattle.schedules.specs.States.{is_waiting, is_running, is_succeeded, is_bad, state_at, first_bad, limit, ended_as}
use Rattle.schedules.specs.Scheduled.{Scheduled, running, are_met, may_start, ready, best, next, command_of, is_over, with_state}
use Rattle.schedules.specs.Entered.{are_below}
use Rattle.schedules.specs.Graphs.{first_late, fresh}
use Rattle.schedules.specs.Events.{Event, Started, Ended, after, Accepts}
use Rattle.schedules.specs.Told.{told_from, between}
use Rattle.schedules.specs.ScheduleLaws.{NeedsSucceedFirst, StartsOnce, SlotsSuffice, MayFollow, FailuresCount, EventsEnd, StartsEarlier, NeverStuck, told_in_order, EndsAs, AllEndAs, ToldInOrder, NothingElseTold}
use Rattle.schedules.proofs.ChainLemmas.{needs_below}
use Rattle.schedules.proofs.EventLemmas
use Rattle.schedules.proofs.GraphLemmas.{IsGood, good, unstarted, none_runs}
use Rattle.schedules.proofs.KeptLemmas.{CanStart, can_start, can_end, waiting_is}
use Rattle.schedules.proofs.StateLemmas.{first_bad-le}
use Rattle.schedules.proofs.TournamentLemmas.{some_best}

-- Needs.

all_any : (test : ℕ → Bool) (ms : List ℕ) (m : ℕ) → list_all test ms ≡ true → list_any (λ k. k == m) ms ≡ true → test m ≡ true
all_any test [] m h e = absurd (false≢true e)
all_any test (k ∷ ms) m h e =
    let parts : (test k ≡ true) × (list_all test ms ≡ true) = and_parts (test k) (list_all test ms) h in
    elim (EventLemmas.either (k == m) (list_any (λ j. j == m) ms) e) [
      | inl now ↦ subst (λ j. test j ≡ true) (eqb-true k m now) parts.0
      | inr later ↦ all_any test ms m parts.1 later
    ]

abbrev start : List (List ℕ) → List ℕ → ℕ → AfterFailure → Scheduled
start needs priorities slots setting = fresh needs priorities slots setting

pub needs_first : NeedsSucceedFirst
needs_first needs priorities slots setting events good accepts before n m is needed =
    let s : Scheduled = start needs priorities slots setting in
    let all : Accepts s (before ++ Started n ∷ []) = subst (Accepts s) is accepts in
    let first : Accepts s before = EventLemmas.accepts_first s before (Started n ∷ []) all in
    let can : CanStart (after s before) n = can_start (after s before) n (EventLemmas.accepts_second s before (Started n ∷ []) all).0 in
    let met : are_met needs (after s before).states n ≡ true = subst (λ q. are_met q (after s before).states n ≡ true) (ap (λ t. t.needs) (EventLemmas.only_states s before)) can.met in
    elim (EventLemmas.by_success s before m first (all_any (λ k. is_succeeded (state_at (after s before).states k)) (get_or needs n []) m met needed)) [
      | inl was ↦ absurd (false≢true (ap is_succeeded (sym (unstarted (length needs) m)) ∙ was))
      | inr ended ↦ ended
    ]

one_at_most : (b : Bool) → EventLemmas.one_if b ≤ 1
one_at_most b = grind arith

pub once : StartsOnce
once needs priorities slots setting events good accepts n =
    let s : Scheduled = start needs priorities slots setting in
    omega (arith, EventLemmas.starts_once s events n accepts, one_at_most (is_waiting (state_at s.states n)))

pub slots_suffice : SlotsSuffice
slots_suffice needs priorities slots setting events good accepts =
    let s : Scheduled = start needs priorities slots setting in
    let none : running s.states ≡ 0 = none_runs (length needs) in
    omega (arith, none, EventLemmas.runs_within s events accepts (omega (arith, none)), EventLemmas.runs_are s events accepts)

-- Failures.

bound_by : (b : Bool) (first m : ℕ) → first ≤ m → cond b 0 (suc first) ≤ suc m
bound_by b first m h = grind arith

bad_bound : (ss : List CommandState) (m : ℕ) → is_bad (state_at ss m) ≡ true → (first_bad ss ≤ m) × (m < length ss)
bad_bound [] m e = absurd (false≢true e)
bad_bound (s ∷ ss) zero e = (omega (arith, ap (λ b. cond b 0 (suc (first_bad ss))) e), omega arith)
bad_bound (s ∷ ss) (suc m) e = (bound_by (is_bad s) (first_bad ss) m (bad_bound ss m e).0, omega (arith, (bad_bound ss m e).1))

follows : (setting : AfterFailure) (ss : List CommandState) (n m : ℕ) → n < limit setting ss → first_bad ss ≤ m → m < length ss → MayFollow setting m n
follows StartNothing ss n m h le some =
    omega (arith, ap (λ b. cond b 0 (length ss)) (lt-ltb (first_bad ss) (length ss) (omega (arith, le, some))), h)
follows StartEarlier ss n m h le some = omega (arith, h, le)
follows GoOn ss n m h le some = tt

pub failures : FailuresCount
failures needs priorities slots setting events good accepts before n m is bad =
    let s : Scheduled = start needs priorities slots setting in
    let all : Accepts s (before ++ Started n ∷ []) = subst (Accepts s) is accepts in
    let first : Accepts s before = EventLemmas.accepts_first s before (Started n ∷ []) all in
    let can : CanStart (after s before) n = can_start (after s before) n (EventLemmas.accepts_second s before (Started n ∷ []) all).0 in
    let bound : (first_bad (after s before).states ≤ m) × (m < length (after s before).states) = bad_bound (after s before).states m (EventLemmas.bad_by_event s before m first bad) in
    let allowed : n < limit setting (after s before).states = subst (λ q. n < limit q (after s before).states) (ap (λ t. t.after_failure) (EventLemmas.only_states s before)) (ltb-true n (limit (after s before).after_failure (after s before).states) can.allowed) in
    follows setting (after s before).states n m allowed bound.0 bound.1

all_are_left : (count : ℕ) → EventLemmas.all_left (replicate count kinds.NotStarted) ≡ count + count
all_are_left zero = refl
all_are_left (suc count) = omega (arith, sum_by-cons EventLemmas.events_left kinds.NotStarted (replicate count kinds.NotStarted), all_are_left count)

pub ends : EventsEnd
ends needs priorities slots setting events good accepts =
    let s : Scheduled = start needs priorities slots setting in
    omega (arith, EventLemmas.events_fit s events accepts, all_are_left (length needs), length-replicate (length needs) kinds.NotStarted)

-- Nothing that can run is forgotten.

-- what is known of a schedule that is over
record IsOver (s : Scheduled) : Type 0 where
  none_runs : running s.states ≡ 0
  none_next : next s ≡ None
  some_slot : 0 < s.slots
  as_many : length s.priorities ≡ length s.states
  in_time : first_late 0 s.needs ≡ None
  as_many_needs : length s.needs ≡ length s.states

no_value : (o : Option ℕ) → not (is_some o) ≡ true → o ≡ None
no_value None e = refl
no_value (Some n) e = absurd (false≢true e)

over : (needs : List (List ℕ)) (priorities : List ℕ) (slots : ℕ) (setting : AfterFailure) (events : List Event) → IsGood needs (length priorities) slots → is_over (after (start needs priorities slots setting) events) ≡ true → IsOver (after (start needs priorities slots setting) events)
over needs priorities slots setting events good e =
    let s : Scheduled = start needs priorities slots setting in
    let parts : ((running (after s events).states == 0) ≡ true) × (not (is_some (next (after s events))) ≡ true) = and_parts (running (after s events).states == 0) (not (is_some (next (after s events)))) e in
    let count : length (after s events).states ≡ length needs = EventLemmas.same_count s events ∙ length-replicate (length needs) kinds.NotStarted in
    record {
      none_runs = eqb-true (running (after s events).states) 0 parts.0;
      none_next = no_value (next (after s events)) parts.1;
      some_slot = subst (λ n. 0 < n) (sym (ap (λ t. t.slots) (EventLemmas.only_states s events))) good.some_slot;
      as_many = ap (λ t. length t.priorities) (EventLemmas.only_states s events) ∙ good.as_many ∙ sym count;
      in_time = subst (λ q. first_late 0 q ≡ None) (sym (ap (λ t. t.needs) (EventLemmas.only_states s events))) good.in_time;
      as_many_needs = ap (λ t. length t.needs) (EventLemmas.only_states s events) ∙ sym count;
    }

some_command : (ps : List ℕ) (b : ℕ) → b < length ps → command_of ps b ≡ Some b
some_command ps b h = ap (λ t. cond t (Some b) None) (lt-ltb b (length ps) h)

-- then none may start
none_may : (s : Scheduled) → IsOver s → (n : ℕ) → n < length s.states → may_start s n ≡ true → ⊥
none_may s is n h e =
    let room : running s.states < s.slots = omega (arith, is.none_runs, is.some_slot) in
    let some : best s.priorities (ready s) < length s.priorities = some_best s.priorities (may_start s) 0 (length s.states) n (omega arith) (omega (arith, h)) (omega (arith, h, is.as_many)) e in
    let named : next s ≡ Some (best s.priorities (ready s)) = ap (λ b. cond b (command_of s.priorities (best s.priorities (ready s))) None) (lt-ltb (running s.states) s.slots room) ∙ some_command s.priorities (best s.priorities (ready s)) some in
    let contrary : None ≡ Some (best s.priorities (ready s)) = sym is.none_next ∙ named in
    cc

-- none runs
no_count : (test : CommandState → Bool) (ss : List CommandState) (n : ℕ) → test kinds.NotStarted ≡ false → count_by test ss ≡ 0 → test (state_at ss n) ≡ false
no_count test [] n d e = d
no_count test (s ∷ ss) zero d e =
    let step : count_by test (s ∷ ss) ≡ EventLemmas.one_if (test s) + count_by test ss = sum_by-cons (λ t. cond (test t) 1 0) s ss in
    by (test s) refl step
  where
    by : (b : Bool) → test s ≡ b → count_by test (s ∷ ss) ≡ EventLemmas.one_if (test s) + count_by test ss → test s ≡ false
    by true f step = let one : EventLemmas.one_if (test s) ≡ 1 = ap EventLemmas.one_if f in absurd (omega (arith, step, one, e))
    by false f step = f
no_count test (s ∷ ss) (suc n) d e =
    let step : count_by test (s ∷ ss) ≡ EventLemmas.one_if (test s) + count_by test ss = sum_by-cons (λ t. cond (test t) 1 0) s ss in
    no_count test ss n d (omega (arith, step, e))

met_if : (test : ℕ → Bool) (n : ℕ) (ms : List ℕ) → are_below n ms ≡ true → ((m : ℕ) → m < n → test m ≡ true) → list_all test ms ≡ true
met_if test n [] e all = refl
met_if test n (m ∷ ms) e all =
    let parts : (nat_lt m n ≡ true) × (are_below n ms ≡ true) = and_parts (nat_lt m n) (are_below n ms) e in
    (λ i. all m (ltb-true m n parts.0) i && met_if test n ms parts.1 all i)

-- a command all of whose predecessors succeeded has its needs met
met_at : (s : Scheduled) → IsOver s → (n : ℕ) → n < length s.states → ((m : ℕ) → m < n → is_succeeded (state_at s.states m) ≡ true) → are_met s.needs s.states n ≡ true
met_at s is n h all =
    let same : 0 + n ≡ n = omega arith in
    met_if (λ m. is_succeeded (state_at s.states m)) n (get_or s.needs n []) (subst (λ j. are_below j (get_or s.needs n []) ≡ true) same (needs_below 0 n s.needs is.in_time (omega (arith, h, is.as_many_needs)))) all

within_limit : (setting : AfterFailure) (ss : List CommandState) (n : ℕ) → n < first_bad ss → (StartsEarlier setting ≡ true) ⊎ (first_bad ss ≡ length ss) → n < limit setting ss
within_limit StartNothing ss n h (inl e) = absurd (false≢true e)
within_limit StartNothing ss n h (inr e) =
    let none : nat_lt (first_bad ss) (length ss) ≡ false = grind (arith, nat_tests) in
    omega (arith, ap (λ b. cond b 0 (length ss)) none, e, h)
within_limit StartEarlier ss n h either = h
within_limit GoOn ss n h either = omega (arith, first_bad-le ss, h)

before_bad : (ss : List CommandState) (n : ℕ) → n < first_bad ss → is_bad (state_at ss n) ≡ false
before_bad ss n h =
    elim (is_bad (state_at ss n)) as (λ b. is_bad (state_at ss n) ≡ b → is_bad (state_at ss n) ≡ false) [
      | true ↦ λ e. absurd (omega (arith, h, (bad_bound ss n e).0))
      | false ↦ λ e. e
    ] refl

not_waiting : (s : Scheduled) → IsOver s → (n : ℕ) → n < limit s.after_failure s.states → n < length s.states → are_met s.needs s.states n ≡ true → is_waiting (state_at s.states n) ≡ true → ⊥
not_waiting s is n allowed h met waits = none_may s is n h (λ i. waits i && (met i && lt-ltb n (limit s.after_failure s.states) allowed i))

has_succeeded : (state : CommandState) → (is_waiting state ≡ true → ⊥) → is_running state ≡ false → is_bad state ≡ false → is_succeeded state ≡ true
has_succeeded kinds.NotStarted f e g = absurd (f refl)
has_succeeded kinds.Running f e g = absurd (false≢true (sym e))
has_succeeded kinds.Succeeded f e g = refl
has_succeeded kinds.Failed f e g = absurd (false≢true (sym g))
has_succeeded kinds.Cancelled f e g = absurd (false≢true (sym g))

all_succeed : (s : Scheduled) → IsOver s → (StartsEarlier s.after_failure ≡ true) ⊎ (first_bad s.states ≡ length s.states) → (fuel n : ℕ) → n < fuel → n < first_bad s.states → is_succeeded (state_at s.states n) ≡ true
all_succeed s is either zero n le h = absurd (omega arith)
all_succeed s is either (suc fuel) n le h =
    let there : n < length s.states = omega (arith, h, first_bad-le s.states) in
    let met : are_met s.needs s.states n ≡ true = met_at s is n there (λ m k. all_succeed s is either fuel m (omega (arith, k, le)) (omega (arith, k, h))) in
    has_succeeded (state_at s.states n) (not_waiting s is n (within_limit s.after_failure s.states n h either) there met) (no_count is_running s.states n refl is.none_runs) (before_bad s.states n h)

pub never_stuck : NeverStuck
never_stuck needs priorities slots setting events fine accepts is n h either =
    let s : Scheduled = start needs priorities slots setting in
    let count : length (after s events).states ≡ length s.states = EventLemmas.same_count s events in
    all_succeed (after s events) (over needs priorities slots setting events (good needs (length priorities) slots fine) is)
    (elim either [ inl e ↦ inl (ap (λ t. StartsEarlier t.after_failure) (EventLemmas.only_states s events) ∙ e) | inr e ↦ inr (e ∙ sym count) ]) (suc n) n (omega arith) h

-- What may be printed.

-- how commands that have ended ended, by their states
abbrev StateAs : (ℕ → Bool) → ℕ → ℕ → CommandState → Type 0
StateAs succeeds end n kinds.NotStarted = Unit {0}
StateAs succeeds end n kinds.Running = Unit {0}
StateAs succeeds end n kinds.Succeeded = succeeds n ≡ true
StateAs succeeds end n kinds.Failed = succeeds n ≡ false
StateAs succeeds end n kinds.Cancelled = end ≤ n

ended_state : (succeeds : ℕ → Bool) (end n : ℕ) (o : Outcome) → EndsAs succeeds end (Ended n o) → StateAs succeeds end n (ended_as o)
ended_state succeeds end n outcomes.Success h = h
ended_state succeeds end n outcomes.Failure h = h
ended_state succeeds end n outcomes.Cancelled h = h

state_kept : (succeeds : ℕ → Bool) (end : ℕ) (ss : List CommandState) (n : ℕ) (state : CommandState) → n < length ss → StateAs succeeds end n state → ((m : ℕ) → StateAs succeeds end m (state_at ss m)) → (m : ℕ) → StateAs succeeds end m (state_at (set ss n state) m)
state_kept succeeds end ss n state h so all m =
    elim (m == n) as (λ t. (m == n) ≡ t → StateAs succeeds end m (state_at (set ss n state) m)) [
      | true ↦ λ e.
          subst (λ j. StateAs succeeds end j (state_at (set ss n state) j)) (sym (eqb-true m n e))
          (subst (StateAs succeeds end n) (sym (get_or-set_same ss n state kinds.NotStarted h)) so)
      | false ↦ λ e. subst (StateAs succeeds end m) (sym (get_or-set_other ss n m state kinds.NotStarted (eqb-false m n e))) (all m)
    ] refl

states_as : (succeeds : ℕ → Bool) (end : ℕ) (s : Scheduled) (es : List Event) → Accepts s es → AllEndAs succeeds end es → ((m : ℕ) → StateAs succeeds end m (state_at s.states m)) → (m : ℕ) → StateAs succeeds end m (state_at (after s es).states m)
states_as succeeds end s [] h so all = all
states_as succeeds end s (Started n ∷ es) h so all =
    states_as succeeds end (with_state s n kinds.Running) es h.1 so.1 (state_kept succeeds end s.states n kinds.Running (can_start s n h.0).there tt all)
states_as succeeds end s (Ended n o ∷ es) h so all =
    states_as succeeds end (with_state s n (ended_as o)) es h.1 so.1 (state_kept succeeds end s.states n (ended_as o) (can_end s n h.0).there (ended_state succeeds end n o so.0) all)

unstarted_as : (succeeds : ℕ → Bool) (end count m : ℕ) → StateAs succeeds end m (state_at (replicate count kinds.NotStarted) m)
unstarted_as succeeds end count m = subst (StateAs succeeds end m) (sym (unstarted count m)) tt

-- the plan's own order prints at least what it came to
comes_to : (succeeds : ℕ → Bool) (n left : ℕ) → n ≤ (told_in_order succeeds n left).end
comes_to succeeds n zero = omega arith
comes_to succeeds n (suc left) =
    let rest : n + 1 ≤ (told_in_order succeeds (n + 1) left).end = comes_to succeeds (n + 1) left in
    elim (succeeds n) as (λ t. n ≤ (cond t (told_in_order succeeds (n + 1) left) (record { end = n + 1; status = statuses.Failed })).end) [ true ↦ omega arith | false ↦ omega arith ]

-- and more than the command that it comes to
comes_past : (succeeds : ℕ → Bool) (n left : ℕ) → n < (told_in_order succeeds n (suc left)).end
comes_past succeeds n left =
    let rest : n + 1 ≤ (told_in_order succeeds (n + 1) left).end = comes_to succeeds (n + 1) left in
    elim (succeeds n) as (λ t. n < (cond t (told_in_order succeeds (n + 1) left) (record { end = n + 1; status = statuses.Failed })).end) [ true ↦ omega arith | false ↦ omega arith ]

rest_of : (ss : List CommandState) (n : ℕ) → n < length ss → drop n ss ≡ state_at ss n ∷ drop (n + 1) ss
rest_of ss n h = drop_more ss n kinds.NotStarted h

-- of commands from a number on
no_more : (succeeds : ℕ → Bool) (end : ℕ) (ss : List CommandState) → ((m : ℕ) → StateAs succeeds end m (state_at ss m)) → (left n : ℕ) → n + left ≡ length ss → (told_from n (drop n ss)).end ≤ (told_in_order succeeds n left).end
no_more succeeds end ss so zero n e = let none : drop n ss ≡ [] = drop_all n ss (omega arith) in omega (arith, ap (λ l. (told_from n l).end) none)
no_more succeeds end ss so (suc left) n e =
    subst (λ l. (told_from n l).end ≤ (told_in_order succeeds n (suc left)).end) (sym (rest_of ss n (omega arith)))
    (by (state_at ss n) (so n) (no_more succeeds end ss so left (n + 1) (omega arith)))
  where
    by : (state : CommandState) → StateAs succeeds end n state → (told_from (n + 1) (drop (n + 1) ss)).end ≤ (told_in_order succeeds (n + 1) left).end → (told_from n (state ∷ drop (n + 1) ss)).end ≤ (told_in_order succeeds n (suc left)).end
    by kinds.NotStarted h rest = omega (arith, comes_to succeeds n (suc left))
    by kinds.Running h rest = omega (arith, comes_to succeeds n (suc left))
    by kinds.Succeeded h rest = subst (λ t. (told_from (n + 1) (drop (n + 1) ss)).end ≤ (cond t (told_in_order succeeds (n + 1) left) (record { end = n + 1; status = statuses.Failed })).end) (sym h) rest
    by kinds.Failed h rest = omega (arith, comes_past succeeds n left)
    by kinds.Cancelled h rest = omega (arith, comes_to succeeds n (suc left))

all_between : (ss : List CommandState) (count : ℕ) → count ≡ length ss → between ss 0 count ≡ ss
all_between ss count e = let whole : count - 0 ≡ count = omega arith in ap (λ k. take k ss) whole ∙ take_all count ss (omega (arith, e))

pub nothing_else : NothingElseTold
nothing_else needs priorities slots setting events fine accepts succeeds so =
    let s : Scheduled = start needs priorities slots setting in
    let count : length (after s events).states ≡ length s.states = EventLemmas.same_count s events in
    let end : ℕ = (told_in_order succeeds 0 (length s.states)).end in
    let states : (m : ℕ) → StateAs succeeds end m (state_at (after s events).states m) = states_as succeeds end s events accepts so (unstarted_as succeeds end (length needs)) in
    subst (λ l. (told_from 0 l).end ≤ (told_in_order succeeds 0 (length s.states)).end) (sym (all_between (after s events).states (length s.states) (sym count)))
    (no_more succeeds end (after s events).states states (length s.states) 0 (omega (arith, count)))

succeeded_is_good : (state : CommandState) → is_succeeded state ≡ true → is_bad state ≡ false
succeeded_is_good kinds.Failed e = absurd (false≢true e)
succeeded_is_good kinds.Cancelled e = absurd (false≢true e)
succeeded_is_good state e = refl

good_behind : (b : Bool) (first n : ℕ) → suc n ≤ cond b 0 (suc first) → (n ≤ first → n < first) → suc n < cond b 0 (suc first)
good_behind b first n le f = grind arith

more_succeeded : (ss : List CommandState) (n : ℕ) → ((m : ℕ) → m < n → is_succeeded (state_at ss m) ≡ true) → is_succeeded (state_at ss n) ≡ true → (m : ℕ) → m < n + 1 → is_succeeded (state_at ss m) ≡ true
more_succeeded ss n all here m h =
    elim (nat_lt m n) as (λ t. nat_lt m n ≡ t → is_succeeded (state_at ss m) ≡ true) [
      | true ↦ λ e. all m (ltb-true m n e)
      | false ↦ λ e. let is : n ≡ m = omega (arith, ltb-false m n e, h) in subst (λ j. is_succeeded (state_at ss j) ≡ true) is here
    ] refl

first_bad_from : (ss : List CommandState) (n : ℕ) → n ≤ length ss → ((m : ℕ) → m < n → is_succeeded (state_at ss m) ≡ true) → n ≤ first_bad ss
first_bad_from ss zero h all = omega arith
first_bad_from [] (suc n) h all = absurd (omega arith)
first_bad_from (s ∷ ss) (suc n) h all =
    omega (arith, first_bad_from ss n (omega arith) (λ m k. all (suc m) (omega arith)), ap (λ b. cond b 0 (suc (first_bad ss))) (succeeded_is_good s (all 0 (omega arith))))

-- one that isn't bad is behind no bad one, so it may start
good_is_before : (ss : List CommandState) (n : ℕ) → n < length ss → n ≤ first_bad ss → is_bad (state_at ss n) ≡ false → n < first_bad ss
good_is_before [] n h le e = absurd (omega arith)
good_is_before (s ∷ ss) zero h le e = let here : first_bad (s ∷ ss) ≡ suc (first_bad ss) = ap (λ b. cond b 0 (suc (first_bad ss))) e in omega (arith, here)
good_is_before (s ∷ ss) (suc n) h le e = good_behind (is_bad s) (first_bad ss) n le (λ k. good_is_before ss n (omega arith) k e)

-- a command that nothing failed before isn't waiting when all is over
was_started : (s : Scheduled) → IsOver s → StartsEarlier s.after_failure ≡ true → (n : ℕ) → n < length s.states → ((m : ℕ) → m < n → is_succeeded (state_at s.states m) ≡ true) → is_waiting (state_at s.states n) ≡ true → ⊥
was_started s is setting n h all waits =
    let good : is_bad (state_at s.states n) ≡ false = ap is_bad (waiting_is (state_at s.states n) waits) in
    let before : n < first_bad s.states = good_is_before s.states n h (first_bad_from s.states n (omega arith) all) good in
    not_waiting s is n (within_limit s.after_failure s.states n before (inl setting)) h (met_at s is n h all) waits

told_on : (succeeds : ℕ → Bool) (end : ℕ) (s : Scheduled) → IsOver s → StartsEarlier s.after_failure ≡ true → ((m : ℕ) → StateAs succeeds end m (state_at s.states m)) → (left n : ℕ) → n + left ≡ length s.states
    → end ≡ (told_in_order succeeds n left).end → ((m : ℕ) → m < n → is_succeeded (state_at s.states m) ≡ true) → told_from n (drop n s.states) ≡ told_in_order succeeds n left
told_on succeeds end s is setting so zero n e same all = ap (told_from n) (drop_all n s.states (omega arith))
told_on succeeds end s is setting so (suc left) n e same all =
    let there : n < length s.states = omega arith in
    ap (told_from n) (rest_of s.states n there)
    ∙ by (state_at s.states n) refl (so n) (was_started s is setting n there all) (no_count is_running s.states n refl is.none_runs)
    (λ f g. told_on succeeds end s is setting so left (n + 1) (omega arith) (same ∙ ap (λ t. (cond t (told_in_order succeeds (n + 1) left) (record { end = n + 1; status = statuses.Failed })).end) f) (more_succeeded s.states n all g))
  where
    by : (state : CommandState) → state_at s.states n ≡ state → StateAs succeeds end n state → (is_waiting state ≡ true → ⊥) → is_running state ≡ false
        → (succeeds n ≡ true → is_succeeded (state_at s.states n) ≡ true → told_from (n + 1) (drop (n + 1) s.states) ≡ told_in_order succeeds (n + 1) left)
        → told_from n (state ∷ drop (n + 1) s.states) ≡ told_in_order succeeds n (suc left)
    by kinds.NotStarted is_it h waits runs rest = absurd (waits refl)
    by kinds.Running is_it h waits runs rest = absurd (false≢true (sym runs))
    by kinds.Succeeded is_it h waits runs rest = rest h (ap is_succeeded is_it) ∙ sym (ap (λ t. cond t (told_in_order succeeds (n + 1) left) (record { end = n + 1; status = statuses.Failed })) h)
    by kinds.Failed is_it h waits runs rest = sym (ap (λ t. cond t (told_in_order succeeds (n + 1) left) (record { end = n + 1; status = statuses.Failed })) h)
    by kinds.Cancelled is_it h waits runs rest = absurd (omega (arith, h, same, comes_past succeeds n left))

pub told_in_order_is : ToldInOrder
told_in_order_is needs priorities slots setting events fine accepts succeeds so earlier is =
    let s : Scheduled = start needs priorities slots setting in
    let count : length (after s events).states ≡ length s.states = EventLemmas.same_count s events in
    let end : ℕ = (told_in_order succeeds 0 (length s.states)).end in
    let states : (m : ℕ) → StateAs succeeds end m (state_at (after s events).states m) = states_as succeeds end s events accepts so (unstarted_as succeeds end (length needs)) in
    ap (told_from 0) (all_between (after s events).states (length s.states) (sym count))
    ∙ told_on succeeds end (after s events) (over needs priorities slots setting events (good needs (length priorities) slots fine) is) (ap (λ t. StartsEarlier t.after_failure) (EventLemmas.only_states s events) ∙ earlier) states (length s.states) 0
    (omega (arith, count)) refl (λ m h. absurd (omega arith))
