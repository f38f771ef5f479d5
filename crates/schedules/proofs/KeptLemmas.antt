-- What a schedule keeps at each event.
use Rattle.std.proofs.Common.{◌≡◌, ℕ, ◌+◌, ◌-◌, ◌<◌, ◌≤◌, ◌≢◌, List, [], Bool, true, false, cond, ◌&&◌, ◌==◌, Option, Some, None, length, get_or, set, map, refl, sym, ap, subst, ◌∙◌, arith}
use Rattle.std.specs.Prelude.{nat_lt, not}
use Rattle.std.specs.List.{filter, range_with_len}
use Rattle.std.proofs.lemmas.Bool.{false≢true, and_parts, eqb-true, eqb-false, lt-ltb, ltb-true}
use Rattle.std.proofs.lemmas.Bool.Decides.{nat_tests}
use Rattle.std.proofs.lemmas.List.{length-set, length-map, get_or-map, get_or-set_same, get_or-set_other}
use Rattle.schedules.specs.declared.command.AfterFailure.{AfterFailure}
use Rattle.schedules.specs.declared.command.AfterFailure.TheVariants.{StartNothing, StartEarlier, GoOn}
use Rattle.schedules.specs.declared.command.CommandState.{CommandState}
use Rattle.schedules.specs.declared.command.CommandState.TheVariants as kinds
use Rattle.schedules.specs.declared.command.Refused.{Refused}
use Rattle.schedules.specs.States.{is_waiting, is_running, is_succeeded, is_bad, state_at, limit, lowered}
use Rattle.schedules.specs.Scheduled.{Scheduled, are_met, may_start, ready, best, running, next, command_of, start_refusal, end_refusal, with_state}
use Rattle.schedules.specs.Entered.{Played, entrant, unmet, times, is_free, are_below, AreEntered, AreBounded, unless_between}
use Rattle.schedules.specs.Kept.{IsCounted}
use Rattle.schedules.proofs.CountLemmas.{met-unmet, unmet-succeeded, unmet-same}
use Rattle.schedules.proofs.TournamentLemmas.{Enter, IsOneOf, best_is_one, root_is_best}
use Rattle.schedules.proofs.StateLemmas.{limit-set, limit-same, count-set}

-- Why an event is accepted.

passed : (b : Bool) (r : Refused) (rest : Option Refused) → cond (not b) (Some r) rest ≡ None → (b ≡ true) × (rest ≡ None)
passed true r rest e = (refl, e)
passed false r rest e = cc

pub waiting_is : (state : CommandState) → is_waiting state ≡ true → state ≡ kinds.NotStarted
waiting_is kinds.NotStarted e = refl
waiting_is state e = absurd (false≢true e)

pub running_is : (state : CommandState) → is_running state ≡ true → state ≡ kinds.Running
running_is kinds.Running e = refl
running_is state e = absurd (false≢true e)

pub record CanStart (s : Scheduled) (n : ℕ) : Type 0 where
  pub there : n < length s.states
  pub waits : state_at s.states n ≡ kinds.NotStarted
  pub met : are_met s.needs s.states n ≡ true
  pub allowed : nat_lt n (limit s.after_failure s.states) ≡ true
  pub room : running s.states < s.slots

pub can_start : (s : Scheduled) (n : ℕ) → start_refusal s n ≡ None → CanStart s n
can_start s n e =
    let one = passed _ _ _ e in
    let two = passed _ _ _ one.1 in
    let three = passed _ _ _ two.1 in
    let four = passed _ _ _ three.1 in
    let five = passed _ _ _ four.1 in
    record {
      there = ltb-true n (length s.states) one.0;
      waits = waiting_is (state_at s.states n) two.0;
      met = three.0;
      allowed = four.0;
      room = ltb-true (running s.states) s.slots five.0;
    }

pub record CanEnd (s : Scheduled) (n : ℕ) : Type 0 where
  pub there : n < length s.states
  pub runs : state_at s.states n ≡ kinds.Running

pub can_end : (s : Scheduled) (n : ℕ) → end_refusal s n ≡ None → CanEnd s n
can_end s n e =
    let one = passed _ _ _ e in
    let two = passed _ _ _ one.1 in
    record { there = ltb-true n (length s.states) one.0; runs = running_is (state_at s.states n) two.0 }

-- States.

abbrev one_if : Bool → ℕ
one_if b = cond b 1 0

bad_waits : (state : CommandState) → is_bad state ≡ true → is_waiting state ≡ false
bad_waits kinds.NotStarted e = absurd (false≢true e)
bad_waits state e = refl

bad_runs : (state : CommandState) → is_bad state ≡ true → is_running state ≡ false
bad_runs kinds.Running e = absurd (false≢true e)
bad_runs state e = refl

bad_succeeds : (state : CommandState) → is_bad state ≡ true → is_succeeded state ≡ false
bad_succeeds kinds.Succeeded e = absurd (false≢true e)
bad_succeeds state e = refl

-- Who may start.

free_elsewhere : (states : List CommandState) (waiting : List ℕ) (below n k : ℕ) (state : CommandState) → k ≢ n → is_free (set states n state) waiting below k ≡ is_free states waiting below k
free_elsewhere states waiting below n k state h = ap (λ s. is_waiting s && ((get_or waiting k 0 == 0) && nat_lt k below)) (get_or-set_other states n k state kinds.NotStarted h)

free_there : (states : List CommandState) (waiting : List ℕ) (below n : ℕ) (state : CommandState) → n < length states → is_waiting state ≡ false → is_free (set states n state) waiting below n ≡ false
free_there states waiting below n state h e = ap (λ s. is_waiting s && ((get_or waiting n 0 == 0) && nat_lt n below)) (get_or-set_same states n state kinds.NotStarted h) ∙ ap (λ b. b && ((get_or waiting n 0 == 0) && nat_lt n below)) e

not_free : (states : List CommandState) (waiting : List ℕ) (below n : ℕ) → is_waiting (state_at states n) ≡ false → is_free states waiting below n ≡ false
not_free states waiting below n e = ap (λ b. b && ((get_or waiting n 0 == 0) && nat_lt n below)) e

-- a command that didn't wait and doesn't wait
pub entered_still : (ps tree : List ℕ) (states : List CommandState) (waiting : List ℕ) (below n : ℕ) (state : CommandState)
    → AreEntered ps tree states waiting below → n < length states → is_waiting (state_at states n) ≡ false → is_waiting state ≡ false → AreEntered ps tree (set states n state) waiting below
entered_still ps tree states waiting below n state entered h e f = record {
  size = entered.size;
  played = entered.played;
  entrants = λ k w. entered.entrants k w ∙ ap (λ b. cond b k (length ps)) (sym (by k (k == n) refl));
}
  where
    by : (k : ℕ) (t : Bool) → (k == n) ≡ t → is_free (set states n state) waiting below k ≡ is_free states waiting below k
    by k true same = let is : k ≡ n = eqb-true k n same in subst (λ m. is_free (set states n state) waiting below m ≡ is_free states waiting below m) (sym is) (free_there states waiting below n state h f ∙ sym (not_free states waiting below n e))
    by k false other = free_elsewhere states waiting below n k state (eqb-false k n other)

pub bounded : (ps tree : List ℕ) (states : List CommandState) (waiting : List ℕ) (below : ℕ) → AreEntered ps tree states waiting below → AreBounded ps tree
bounded ps tree states waiting below entered k h = grind (arith, entered.entrants k h)

-- A command starts.

-- the goal has the priorities as `ps`, the tree before as `was`, and the number of commands as `nobody`
pub begun : (s : Scheduled) (dependents : List (List ℕ)) (waiting tree was after ps : List ℕ) (run below n nobody : ℕ)
    → IsCounted s dependents waiting tree run below → CanStart s n → ps ≡ s.priorities → was ≡ tree → nobody ≡ length s.priorities → length after ≡ length was → Played ps after
    → ((k : ℕ) → k < length ps → entrant ps after k ≡ cond (k == n) nobody (entrant ps was k))
    → IsCounted (with_state s n kinds.Running) dependents waiting after (run + 1) below
begun s dependents waiting tree was after ps run below n nobody kept can e f g size played entered = record {
  as_many_priorities = kept.as_many_priorities ∙ sym (length-set s.states n kinds.Running);
  as_many_needs = kept.as_many_needs ∙ sym (length-set s.states n kinds.Running);
  as_many_waiting = kept.as_many_waiting ∙ sym (length-set s.states n kinds.Running);
  turned = kept.turned;
  counted = λ m h. kept.counted m (omega (arith, h, length-set s.states n kinds.Running)) ∙ sym (unmet-same s.states n kinds.Running (get_or s.needs m []) can.there (ap is_succeeded can.waits) refl);
  entered = record {
    size = size ∙ ap length f ∙ kept.entered.size;
    played = subst (λ q. Played q after) e played;
    entrants = λ k h. by k h (k == n) refl;
  };
  limited = kept.limited ∙ sym (limit-same s.after_failure s.states n kinds.Running can.there (ap is_bad can.waits) refl);
  running_is = omega (arith, count-set is_running s.states n kinds.Running can.there, ap (λ state. one_if (is_running state)) can.waits, kept.running_is);
  some_slot = kept.some_slot;
}
  where
    entrants : (k : ℕ) → k < length s.priorities → entrant s.priorities after k ≡ cond (k == n) (length s.priorities) (entrant s.priorities tree k)
    entrants =
        subst (λ m. (k : ℕ) → k < length s.priorities → entrant s.priorities after k ≡ cond (k == n) m (entrant s.priorities tree k)) g
        (subst (λ t. (k : ℕ) → k < length s.priorities → entrant s.priorities after k ≡ cond (k == n) nobody (entrant s.priorities t k)) f
        (subst (λ q. (k : ℕ) → k < length q → entrant q after k ≡ cond (k == n) nobody (entrant q was k)) e entered))

    by : (k : ℕ) → k < length s.priorities → (t : Bool) → (k == n) ≡ t → entrant s.priorities after k ≡ cond (is_free (set s.states n kinds.Running) waiting below k) k (length s.priorities)
    by k h true same =
        let is : k ≡ n = eqb-true k n same in
        entrants k h ∙ ap (λ b. cond b (length s.priorities) (entrant s.priorities tree k)) same
        ∙ sym (ap (λ b. cond b k (length s.priorities)) (subst (λ m. is_free (set s.states n kinds.Running) waiting below m ≡ false) (sym is) (free_there s.states waiting below n kinds.Running can.there refl)))
    by k h false other =
        entrants k h ∙ ap (λ b. cond b (length s.priorities) (entrant s.priorities tree k)) other ∙ kept.entered.entrants k h
        ∙ sym (ap (λ b. cond b k (length s.priorities)) (free_elsewhere s.states waiting below n k kinds.Running (eqb-false k n other)))

-- A command succeeds.

-- each of those that need the command waits for it as often as it needs it
pub enough : (s : Scheduled) (dependents : List (List ℕ)) (waiting held tree ps those : List ℕ) (run below n : ℕ)
    → IsCounted s dependents waiting tree run below → CanEnd s n → ps ≡ s.priorities → held ≡ waiting → those ≡ get_or dependents n []
    → (m : ℕ) → m < length ps → times m those ≤ get_or held m 0
enough s dependents waiting held tree ps those run below n kept can e f h m w =
    let there : m < length s.states = omega (arith, w, ap length e, kept.as_many_priorities) in
    let turned : times m (get_or dependents n []) ≡ times n (get_or s.needs m []) = kept.turned.turned n m (omega (arith, can.there, kept.as_many_needs)) (omega (arith, there, kept.as_many_needs)) in
    let fewer : unmet (set s.states n kinds.Succeeded) (get_or s.needs m []) + times n (get_or s.needs m []) ≡ unmet s.states (get_or s.needs m []) =
    unmet-succeeded s.states n (get_or s.needs m []) can.there (ap is_succeeded can.runs) in
    omega (arith, turned, kept.counted m there, fewer, ap (times m) h, ap (λ t. get_or t m 0) f)

run_less : (s : Scheduled) (run n : ℕ) (state : CommandState) → run ≡ running s.states → CanEnd s n → is_running state ≡ false → run - 1 ≡ running (set s.states n state)
run_less s run n state is can e =
    omega (arith, count-set is_running s.states n state can.there, ap (λ state. one_if (is_running state)) can.runs, ap one_if e, is)

-- the goal has the priorities as `ps`, the counts before as `held`, the new states as `states`, and the dependents as `those`
pub succeeded : (s : Scheduled) (dependents : List (List ℕ)) (waiting held now tree after ps those : List ℕ) (states : List CommandState) (run below n : ℕ)
    → IsCounted s dependents waiting tree run below → CanEnd s n → ps ≡ s.priorities → held ≡ waiting → states ≡ set s.states n kinds.Succeeded → those ≡ get_or dependents n [] → length now ≡ length held
    → AreEntered ps after states now below
    → ((m : ℕ) → m < length ps → get_or now m 0 + times m those ≡ get_or held m 0)
    → IsCounted (with_state s n kinds.Succeeded) dependents now after (run - 1) below
succeeded s dependents waiting held now tree after ps those states run below n kept can e f g h size entered fewer_wait = record {
  as_many_priorities = kept.as_many_priorities ∙ sym (length-set s.states n kinds.Succeeded);
  as_many_needs = kept.as_many_needs ∙ sym (length-set s.states n kinds.Succeeded);
  as_many_waiting = size ∙ ap length f ∙ kept.as_many_waiting ∙ sym (length-set s.states n kinds.Succeeded);
  turned = kept.turned;
  counted = λ m w.
      let there : m < length s.states = omega (arith, w, length-set s.states n kinds.Succeeded) in
      let turned : times m (get_or dependents n []) ≡ times n (get_or s.needs m []) = kept.turned.turned n m (omega (arith, can.there, kept.as_many_needs)) (omega (arith, there, kept.as_many_needs)) in
      let fewer : unmet (set s.states n kinds.Succeeded) (get_or s.needs m []) + times n (get_or s.needs m []) ≡ unmet s.states (get_or s.needs m []) =
      unmet-succeeded s.states n (get_or s.needs m []) can.there (ap is_succeeded can.runs) in
      omega (arith, turned, kept.counted m there, fewer, left m (omega (arith, there, kept.as_many_priorities)));
  entered = subst (λ q. AreEntered s.priorities after q now below) g (subst (λ q. AreEntered q after states now below) e entered);
  limited = kept.limited ∙ sym (limit-same s.after_failure s.states n kinds.Succeeded can.there (ap is_bad can.runs) refl);
  running_is = run_less s run n kinds.Succeeded kept.running_is can refl;
  some_slot = kept.some_slot;
}
  where
    left : (m : ℕ) → m < length s.priorities → get_or now m 0 + times m (get_or dependents n []) ≡ get_or waiting m 0
    left m w = subst (λ t. get_or now m 0 + times m t ≡ get_or waiting m 0) h (subst (λ t. get_or now m 0 + times m those ≡ get_or t m 0) f (fewer_wait m (subst (λ q. m < length q) (sym e) w)))

-- A command ends without success.

pub lowered-le : (after : AfterFailure) (below n : ℕ) → lowered after below n ≤ below
lowered-le StartNothing below n = omega arith
lowered-le StartEarlier below n = omega arith
lowered-le GoOn below n = omega arith

-- whom a lower number still lets start
lower_by : (waits free : Bool) (low below k nobody : ℕ) → low ≤ below → unless_between low below nobody k (cond (waits && (free && nat_lt k below)) k nobody) ≡ cond (waits && (free && nat_lt k low)) k nobody
lower_by waits free low below k nobody h = grind (arith, nat_tests)

-- the goal has the priorities as `ps`, the tree before as `was`, and the new bound as `low`
pub failed : (s : Scheduled) (dependents : List (List ℕ)) (waiting tree was after ps : List ℕ) (run below low n : ℕ) (state : CommandState)
    → IsCounted s dependents waiting tree run below → CanEnd s n → is_bad state ≡ true → ps ≡ s.priorities → was ≡ tree → low ≡ lowered s.after_failure below n → length after ≡ length was → Played ps after
    → ((k : ℕ) → k < length ps → entrant ps after k ≡ unless_between low below (length ps) k (entrant ps was k))
    → IsCounted (with_state s n state) dependents waiting after (run - 1) low
failed s dependents waiting tree was after ps run below low n state kept can bad e f g size played entered = subst (λ l. IsCounted (with_state s n state) dependents waiting after (run - 1) l) (sym g) (record {
  as_many_priorities = kept.as_many_priorities ∙ sym (length-set s.states n state);
  as_many_needs = kept.as_many_needs ∙ sym (length-set s.states n state);
  as_many_waiting = kept.as_many_waiting ∙ sym (length-set s.states n state);
  turned = kept.turned;
  counted = λ m h. kept.counted m (omega (arith, h, length-set s.states n state)) ∙ sym (unmet-same s.states n state (get_or s.needs m []) can.there (ap is_succeeded can.runs) (bad_succeeds state bad));
  entered = record { size = size ∙ ap length f ∙ kept.entered.size; played = subst (λ q. Played q after) e played; entrants = now };
  limited = ap (λ b. lowered s.after_failure b n) kept.limited ∙ sym (limit-set s.after_failure s.states n state can.there (ap is_bad can.runs) bad);
  running_is = run_less s run n state kept.running_is can (bad_runs state bad);
  some_slot = kept.some_slot;
})
  where
    entrants : (k : ℕ) → k < length s.priorities → entrant s.priorities after k ≡ unless_between (lowered s.after_failure below n) below (length s.priorities) k (entrant s.priorities tree k)
    entrants =
        subst (λ l. (k : ℕ) → k < length s.priorities → entrant s.priorities after k ≡ unless_between l below (length s.priorities) k (entrant s.priorities tree k)) g
        (subst (λ t. (k : ℕ) → k < length s.priorities → entrant s.priorities after k ≡ unless_between low below (length s.priorities) k (entrant s.priorities t k)) f
        (subst (λ q. (k : ℕ) → k < length q → entrant q after k ≡ unless_between low below (length q) k (entrant q was k)) e entered))

    -- the same commands wait, the one that ended aside, and that one didn't wait
    still : AreEntered s.priorities tree (set s.states n state) waiting below
    still = entered_still s.priorities tree s.states waiting below n state kept.entered can.there (ap is_waiting can.runs) (bad_waits state bad)

    now : (k : ℕ) → k < length s.priorities → entrant s.priorities after k ≡ cond (is_free (set s.states n state) waiting (lowered s.after_failure below n) k) k (length s.priorities)
    now k h =
        entrants k h ∙ ap (unless_between (lowered s.after_failure below n) below (length s.priorities) k) (still.entrants k h)
        ∙ lower_by (is_waiting (state_at (set s.states n state) k)) (get_or waiting k 0 == 0) (lowered s.after_failure below n) below k (length s.priorities) (lowered-le s.after_failure below n)

-- What is next.

pub met_is : (s : Scheduled) (dependents : List (List ℕ)) (waiting tree : List ℕ) (run below n : ℕ) → IsCounted s dependents waiting tree run below → n < length s.states → (get_or waiting n 0 == 0) ≡ are_met s.needs s.states n
met_is s dependents waiting tree run below n kept h = ap (λ w. w == 0) (kept.counted n h) ∙ met-unmet s.states (get_or s.needs n [])

free_is : (s : Scheduled) (dependents : List (List ℕ)) (waiting tree : List ℕ) (run below n : ℕ) → IsCounted s dependents waiting tree run below → n < length s.states → is_free s.states waiting below n ≡ may_start s n
free_is s dependents waiting tree run below n kept h = λ i. is_waiting (state_at s.states n) && (met_is s dependents waiting tree run below n kept h i && nat_lt n (kept.limited i))

they_enter : (s : Scheduled) (dependents : List (List ℕ)) (waiting tree : List ℕ) (run below : ℕ) → IsCounted s dependents waiting tree run below → Enter s.priorities tree (may_start s)
they_enter s dependents waiting tree run below kept n h = kept.entered.entrants n h ∙ ap (λ b. cond b n (length s.priorities)) (free_is s dependents waiting tree run below n kept (omega (arith, h, kept.as_many_priorities)))

pub winner_is : (s : Scheduled) (dependents : List (List ℕ)) (waiting tree : List ℕ) (run below : ℕ) → IsCounted s dependents waiting tree run below → 1 < length tree → get_or tree 1 0 ≡ best s.priorities (ready s)
winner_is s dependents waiting tree run below kept some =
    root_is_best s.priorities tree (may_start s) (omega (arith, some, kept.entered.size)) kept.entered.played (they_enter s dependents waiting tree run below kept)
    ∙ ap (λ n. best s.priorities (filter (may_start s) (range_with_len 0 n))) kept.as_many_priorities

-- who is best may start
may_by : (there waits met allowed room : Bool) (a b d e f : Option Refused) → there ≡ true → (waits && (met && allowed)) ≡ true → room ≡ true
    → cond (not there) a (cond (not waits) b (cond (not met) d (cond (not allowed) e (cond (not room) f None)))) ≡ None
may_by there waits met allowed room a b d e f h k l = grind (arith, and_parts)

pub may_start_now : (s : Scheduled) (n : ℕ) → length s.priorities ≡ length s.states → running s.states < s.slots → n ≡ best s.priorities (ready s) → n < length s.priorities → start_refusal s n ≡ None
may_start_now s n size room is there =
    let one : IsOneOf s.priorities (may_start s) (best s.priorities (ready s)) = best_is_one s.priorities (may_start s) 0 (length s.states) (omega (arith, size)) in
    may_by (nat_lt n (length s.states)) (is_waiting (state_at s.states n)) (are_met s.needs s.states n) (nat_lt n (limit s.after_failure s.states)) (nat_lt (running s.states) s.slots) _ _ _ _ _
    (lt-ltb n (length s.states) (omega (arith, there, size)))
    (subst (λ m. may_start s m ≡ true) (sym is) (one.passes (subst (λ m. m < length s.priorities) is there)))
    (lt-ltb (running s.states) s.slots room)

-- what is next, by the number at the root
pub next_is : (s : Scheduled) (winner : ℕ) → running s.states < s.slots → winner ≡ best s.priorities (ready s) → (t : Bool) → nat_lt winner (length s.priorities) ≡ t → next s ≡ cond t (Some winner) None
next_is s winner room is t e =
    ap (λ b. cond b (command_of s.priorities (best s.priorities (ready s))) None) (lt-ltb (running s.states) s.slots room)
    ∙ ap (command_of s.priorities) (sym is) ∙ ap (λ b. cond b (Some winner) None) e

-- Rows of lists.

pub row_is : {V : Type 0} (items : V → List ℕ) (all : List V) (n : ℕ) (v : V) (ns : List ℕ) → n < length (map items all) → v ≡ get_or all n v → ns ≡ items v → ns ≡ get_or (map items all) n []
row_is items all n v ns h e f = f ∙ ap items e ∙ sym (get_or-map items all n v [] (omega (arith, h, length-map all items)))

pub has_row : (s : Scheduled) (dependents : List (List ℕ)) (waiting tree : List ℕ) (run below n : ℕ) → IsCounted s dependents waiting tree run below → n < length s.states → n < length dependents
has_row s dependents waiting tree run below n kept h = omega (arith, h, kept.as_many_needs, kept.turned.size)

pub within_by : (s : Scheduled) (dependents : List (List ℕ)) (waiting tree ps those : List ℕ) (run below n : ℕ)
    → IsCounted s dependents waiting tree run below → CanEnd s n → ps ≡ s.priorities → those ≡ get_or dependents n [] → are_below (length ps) those ≡ true
within_by s dependents waiting tree ps those run below n kept can e h =
    (λ i. are_below (length (e i)) (h i)) ∙ ap (λ m. are_below m (get_or dependents n [])) (kept.as_many_priorities ∙ sym kept.as_many_needs)
    ∙ kept.turned.within n (omega (arith, can.there, kept.as_many_needs))
