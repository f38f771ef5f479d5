-- In a history each part runs once, and after all that it needs.
use Rattle.std.proofs.Common.{◌≡◌, ℕ, ◌+◌, ◌<◌, ◌⊎◌, inl, inr, List, [], ◌∷◌, Bool, true, false, cond, ◌&&◌, ◌||◌, ◌==◌, Option, Some, None, length, get_or, take, refl, sym, ap, subst, ◌∙◌, arith, get_or-take, length-take-le}
use Rattle.std.specs.Prelude.{nat_lt, not}
use Rattle.std.specs.List.{list_all}
use Rattle.std.proofs.lemmas.Bool.{false≢true, and_parts, eqb-true, eq-eqb, ltb-true, not-true}
use Rattle.std.proofs.lemmas.List.{get_or-set_same, get_or-set_other}
use Rattle.schedules.specs.declared.command.AfterFailure.{AfterFailure}
use Rattle.schedules.specs.declared.command.CommandState.{CommandState}
use Rattle.schedules.specs.declared.command.CommandState.TheVariants as kinds
use Rattle.schedules.specs.declared.command.Outcome.{Outcome}
use Rattle.schedules.specs.declared.command.Outcome.TheVariants as outcomes
use Rattle.schedules.specs.declared.command.Refused.{Refused}
use Rattle.schedules.specs.States.{is_waiting, is_running, is_succeeded, state_at, ended_as}
use Rattle.schedules.specs.Scheduled.{Scheduled, are_met, with_state}
use Rattle.schedules.specs.Graphs.{fresh}
use Rattle.schedules.specs.Events.{Event, Started, Ended, is_success, refusal, changed, after}
use Rattle.schedules.proofs.GraphLemmas.{unstarted}
use Rattle.schedules.proofs.KeptLemmas.{CanStart, CanEnd, can_start, can_end, running_is}
use Rattle.command_files.specs.Order.{numbers_where, is_in, is_ready, needs_at}
use Rattle.command_files.specs.Overlap.{part_follows, part_needs}
use Rattle.command_files.proofs.OrderLemmas.{in_either, in_first, in_second, in_both, passes, all_pass}
use Rattle.command_files.proofs.NeedLemmas.{needs_at_place, needs_earlier, all_from}
use Rattle.schedule_orders.specs.Closed.{closed}
use Rattle.schedule_orders.specs.Histories.{Moment, Tells, Runs, events_in, ran_in, parts_of, may_run, may_end, is_accepted, may_happen}
use Rattle.schedule_orders.proofs.ClosedLemmas.{needed_through}
use Rattle.schedule_orders.proofs.ListLemmas.{first_in, passed_at, EachOnce}

pub accepted : (refused : Option Refused) → is_accepted refused ≡ true → refused ≡ None
accepted None e = refl
accepted (Some r) e = absurd (false≢true e)

-- all parts of a command have run
abbrev pub has_run : List ℕ → List ℕ → ℕ → Bool
has_run parts done n = list_all (is_in done) (parts_of parts n)

-- What holds at each moment: all that a command which has started needs has succeeded, and what has succeeded has run to its end.
pub record Kept (needs : List (List ℕ)) (parts : List ℕ) (s : Scheduled) (done : List ℕ) : Type 0 where
  pub same : s.needs ≡ needs
  pub behind : (n m : ℕ) → is_waiting (state_at s.states n) ≡ false → is_in (needs_at (closed needs) n) m ≡ true → is_succeeded (state_at s.states m) ≡ true
  pub ran : (n : ℕ) → is_succeeded (state_at s.states n) ≡ true → has_run parts done n ≡ true

-- States.

not_waiting : (state : CommandState) → is_succeeded state ≡ true → is_waiting state ≡ false
not_waiting kinds.NotStarted e = absurd (false≢true e)
not_waiting state e = refl

ended_success : (o : Outcome) → is_succeeded (ended_as o) ≡ is_success o
ended_success outcomes.Success = refl
ended_success outcomes.Failure = refl
ended_success outcomes.Cancelled = refl

-- another command's state, and what has succeeded while another changes
other_state : (s : Scheduled) (n m : ℕ) (state : CommandState) → (n == m) ≡ false → state_at (with_state s n state).states m ≡ state_at s.states m
other_state s n m state e = get_or-set_other s.states n m state kinds.NotStarted (λ f. false≢true (sym e ∙ eq-eqb n m (sym f)))

own_state : (s : Scheduled) (n m : ℕ) (state : CommandState) → n < length s.states → (n == m) ≡ true → state_at (with_state s n state).states m ≡ state
own_state s n m state h e = subst (λ j. state_at (with_state s n state).states j ≡ state) (eqb-true n m e) (get_or-set_same s.states n state kinds.NotStarted h)

stays : (s : Scheduled) (n m : ℕ) (state : CommandState) → is_succeeded (state_at s.states n) ≡ false → is_succeeded (state_at s.states m) ≡ true → is_succeeded (state_at (with_state s n state).states m) ≡ true
stays s n m state fails holds = by (n == m) refl
  where
    by : (b : Bool) → (n == m) ≡ b → is_succeeded (state_at (with_state s n state).states m) ≡ true
    by true e = absurd (false≢true (sym fails ∙ ap (λ j. is_succeeded (state_at s.states j)) (eqb-true n m e) ∙ holds))
    by false e = ap is_succeeded (other_state s n m state e) ∙ holds

-- Each moment keeps it.

pub kept_first : (needs : List (List ℕ)) (priorities : List ℕ) (slots : ℕ) (setting : AfterFailure) (parts : List ℕ) → Kept needs parts (fresh needs priorities slots setting) []
kept_first needs priorities slots setting parts = record {
  same = refl;
  behind = λ n m e k. absurd (false≢true (sym e ∙ ap is_waiting (unstarted (length needs) n)));
  ran = λ n e. absurd (false≢true (sym (ap is_succeeded (unstarted (length needs) n)) ∙ e));
}

-- all that a command which may start needs has succeeded
met_behind : (needs : List (List ℕ)) (parts : List ℕ) (s : Scheduled) (done : List ℕ) (n m : ℕ) → Kept needs parts s done → CanStart s n → is_in (needs_at (closed needs) n) m ≡ true → is_succeeded (state_at s.states m) ≡ true
met_behind needs parts s done n m kept can e =
    elim (needed_through needs n m e) [
      | inl listed ↦ met m listed
      | inr t ↦ kept.behind t.other m (not_waiting (state_at s.states t.other) (met t.other t.needed)) t.needs
    ]
  where
    met : (k : ℕ) → is_in (needs_at needs n) k ≡ true → is_succeeded (state_at s.states k) ≡ true
    met k h = all_pass (λ j. is_succeeded (state_at s.states j)) (needs_at needs n) k (subst (λ q. are_met q s.states n ≡ true) kept.same can.met) h

started_kept : (needs : List (List ℕ)) (parts : List ℕ) (s : Scheduled) (done : List ℕ) (n : ℕ) → Kept needs parts s done → CanStart s n → Kept needs parts (with_state s n kinds.Running) done
started_kept needs parts s done n kept can = record {
  same = kept.same;
  behind = λ k m e h. stays s n m kinds.Running unsuccessful (behind k m e h);
  ran = λ k e. kept.ran k (ran k e);
}
  where
    unsuccessful : is_succeeded (state_at s.states n) ≡ false
    unsuccessful = ap is_succeeded can.waits

    behind : (k m : ℕ) → is_waiting (state_at (with_state s n kinds.Running).states k) ≡ false → is_in (needs_at (closed needs) k) m ≡ true → is_succeeded (state_at s.states m) ≡ true
    behind k m e h = by (n == k) refl
      where
        by : (b : Bool) → (n == k) ≡ b → is_succeeded (state_at s.states m) ≡ true
        by true t = met_behind needs parts s done n m kept can (subst (λ j. is_in (needs_at (closed needs) j) m ≡ true) (sym (eqb-true n k t)) h)
        by false t = kept.behind k m (sym (ap is_waiting (other_state s n k kinds.Running t)) ∙ e) h

    ran : (k : ℕ) → is_succeeded (state_at (with_state s n kinds.Running).states k) ≡ true → is_succeeded (state_at s.states k) ≡ true
    ran k e = by (n == k) refl
      where
        by : (b : Bool) → (n == k) ≡ b → is_succeeded (state_at s.states k) ≡ true
        by true t = absurd (false≢true (sym (ap is_succeeded (own_state s n k kinds.Running can.there t)) ∙ e))
        by false t = sym (ap is_succeeded (other_state s n k kinds.Running t)) ∙ e

ended_kept : (needs : List (List ℕ)) (parts : List ℕ) (s : Scheduled) (done : List ℕ) (n : ℕ) (o : Outcome) → Kept needs parts s done → CanEnd s n → may_end parts done (Ended n o) ≡ true → Kept needs parts (with_state s n (ended_as o)) done
ended_kept needs parts s done n o kept can all = record {
  same = kept.same;
  behind = λ k m e h. stays s n m (ended_as o) (ap is_succeeded can.runs) (kept.behind k m (waited k e) h);
  ran = ran;
}
  where
    waited : (k : ℕ) → is_waiting (state_at (with_state s n (ended_as o)).states k) ≡ false → is_waiting (state_at s.states k) ≡ false
    waited k e = by (n == k) refl
      where
        by : (b : Bool) → (n == k) ≡ b → is_waiting (state_at s.states k) ≡ false
        by true t = subst (λ j. is_waiting (state_at s.states j) ≡ false) (eqb-true n k t) (ap is_waiting can.runs)
        by false t = sym (ap is_waiting (other_state s n k (ended_as o) t)) ∙ e

    ran : (k : ℕ) → is_succeeded (state_at (with_state s n (ended_as o)).states k) ≡ true → has_run parts done k ≡ true
    ran k e = by (n == k) refl
      where
        by : (b : Bool) → (n == k) ≡ b → has_run parts done k ≡ true
        by true t =
            let success : is_success o ≡ true = sym (ended_success o) ∙ sym (ap is_succeeded (own_state s n k (ended_as o) can.there t)) ∙ e in
            subst (λ j. has_run parts done j ≡ true) (eqb-true n k t) (sym (ap (λ b. cond b (has_run parts done n) true) success) ∙ all)
        by false t = kept.ran k (sym (ap is_succeeded (other_state s n k (ended_as o) t)) ∙ e)

told_kept : (needs : List (List ℕ)) (parts : List ℕ) (s : Scheduled) (done : List ℕ) (e : Event) → Kept needs parts s done → refusal s e ≡ None → may_end parts done e ≡ true → Kept needs parts (changed s e) done
told_kept needs parts s done (Started n) kept may all = started_kept needs parts s done n kept (can_start s n may)
told_kept needs parts s done (Ended n o) kept may all = ended_kept needs parts s done n o kept (can_end s n may) all

ran_kept : (needs : List (List ℕ)) (parts : List ℕ) (s : Scheduled) (done : List ℕ) (i : ℕ) → Kept needs parts s done → Kept needs parts s (i ∷ done)
ran_kept needs parts s done i kept = record {
  same = kept.same;
  behind = kept.behind;
  ran = λ n e. all_from (is_in (i ∷ done)) (parts_of parts n) (λ m k. in_second (i == m) (is_in done m) (all_pass (is_in done) (parts_of parts n) m (kept.ran n e) k));
}

-- Parts.

-- a part of a command that has run to its end has run
part_ran : (parts done : List ℕ) (i n : ℕ) → i < length parts → get_or parts i 0 ≡ n → has_run parts done n ≡ true → is_in done i ≡ true
part_ran parts done i n h e all =
    let same : 0 + i ≡ i = omega arith in
    all_pass (is_in done) (parts_of parts n) i all
    (subst (λ m. is_in (parts_of parts n) m ≡ true) same (passes (λ p. p == n) 0 0 parts i h (eq-eqb (get_or parts i 0) n e)))

-- what a part needs comes before it, and is of its command or of one that its command needs
part_need : (rows : List (List ℕ)) (parts : List ℕ) (i j : ℕ) → i < length parts → is_in (needs_at (part_needs rows parts) i) j ≡ true → (j < i) × (part_follows rows (get_or parts j 0) (get_or parts i 0) ≡ true)
part_need rows parts i j h e =
    let earlier : j < i = needs_earlier (part_follows rows) 0 parts i j h e in
    let same : 0 + j ≡ j = omega arith in
    let at : is_in (numbers_where (λ p. part_follows rows p (get_or parts i 0)) 0 (take i parts)) (0 + j) ≡ true =
    subst (λ m. is_in (numbers_where (λ p. part_follows rows p (get_or parts i 0)) 0 (take i parts)) m ≡ true) (sym same) (sym (ap (λ ns. is_in ns j) (needs_at_place (part_follows rows) 0 [] parts i h)) ∙ e) in (
      earlier,
      sym (ap (λ p. part_follows rows p (get_or parts i 0)) (get_or-take i parts j 0 earlier)) ∙ passed_at (λ p. part_follows rows p (get_or parts i 0)) 0 0 (take i parts) j at,
    )

record MayRun (parts : List ℕ) (s : Scheduled) (done : List ℕ) (i : ℕ) : Type 0 where
  there : i < length parts
  runs : is_running (state_at s.states (get_or parts i 0)) ≡ true
  new : is_in done i ≡ false
  earlier : list_all (is_in done) (parts_of (take i parts) (get_or parts i 0)) ≡ true

may : (parts : List ℕ) (s : Scheduled) (done : List ℕ) (i : ℕ) → may_run parts s done i ≡ true → MayRun parts s done i
may parts s done i e =
    let command : ℕ = get_or parts i 0 in
    let before : Bool = list_all (is_in done) (parts_of (take i parts) (get_or parts i 0)) in
    let one = and_parts (nat_lt i (length parts)) (is_running (state_at s.states command) && (not (is_in done i) && before)) e in
    let two = and_parts (is_running (state_at s.states command)) (not (is_in done i) && before) one.1 in
    let three = and_parts (not (is_in done i)) before two.1 in
    record { there = ltb-true i (length parts) one.0; runs = two.0; new = not-true (is_in done i) three.0; earlier = three.1 }

-- an earlier part of the same command
same_ran : (parts done : List ℕ) (i j : ℕ) → i < length parts → j < i → get_or parts j 0 ≡ get_or parts i 0 → list_all (is_in done) (parts_of (take i parts) (get_or parts i 0)) ≡ true → is_in done j ≡ true
same_ran parts done i j h k e all =
    let size : length (take i parts) ≡ i = length-take-le i parts (omega (arith, h)) in
    part_ran (take i parts) done j (get_or parts i 0) (omega (arith, size, k)) (get_or-take i parts j 0 k ∙ e) all

-- all that a part needs has run when it runs
needs_ran : (needs : List (List ℕ)) (parts : List ℕ) (s : Scheduled) (done : List ℕ) (i : ℕ) → Kept needs parts s done → MayRun parts s done i → list_all (is_in done) (needs_at (part_needs (closed needs) parts) i) ≡ true
needs_ran needs parts s done i kept m = all_from (is_in done) (needs_at (part_needs (closed needs) parts) i) each
  where
    each : (j : ℕ) → is_in (needs_at (part_needs (closed needs) parts) i) j ≡ true → is_in done j ≡ true
    each j e = by (part_need (closed needs) parts i j m.there e)
      where
        by : (j < i) × (part_follows (closed needs) (get_or parts j 0) (get_or parts i 0) ≡ true) → is_in done j ≡ true
        by p =
            in_either (get_or parts j 0 == get_or parts i 0) (is_in (needs_at (closed needs) (get_or parts i 0)) (get_or parts j 0))
            (λ k. same_ran parts done i j m.there p.0 (eqb-true (get_or parts j 0) (get_or parts i 0) k) m.earlier)
            (λ k. part_ran parts done j (get_or parts j 0) (omega (arith, p.0, m.there)) refl
            (kept.ran (get_or parts j 0) (kept.behind (get_or parts i 0) (get_or parts j 0) (ap is_waiting (running_is (state_at s.states (get_or parts i 0)) m.runs)) k)))
            p.1

-- Histories.

-- the parts that run are ready one after the other
pub ready_from : (needs : List (List ℕ)) (parts : List ℕ) (s : Scheduled) (done : List ℕ) (ms : List Moment) → Kept needs parts s done → may_happen parts s done ms ≡ true → is_ready (needs_at (part_needs (closed needs) parts)) done (ran_in ms) ≡ true
ready_from needs parts s done [] kept h = refl
ready_from needs parts s done (Tells e ∷ ms) kept h =
    let one = and_parts (is_accepted (refusal s e)) (may_end parts done e && may_happen parts (changed s e) done ms) h in
    let two = and_parts (may_end parts done e) (may_happen parts (changed s e) done ms) one.1 in
    ready_from needs parts (changed s e) done ms (told_kept needs parts s done e kept (accepted (refusal s e) one.0) two.0) two.1
ready_from needs parts s done (Runs i ∷ ms) kept h =
    let one = and_parts (may_run parts s done i) (may_happen parts s (i ∷ done) ms) h in
    in_both (list_all (is_in done) (needs_at (part_needs (closed needs) parts) i)) (is_ready (needs_at (part_needs (closed needs) parts)) (i ∷ done) (ran_in ms))
    (needs_ran needs parts s done i kept (may parts s done i one.0))
    (ready_from needs parts s (i ∷ done) ms (ran_kept needs parts s done i kept) one.1)

-- a part that has run doesn't run again
not_again : (parts : List ℕ) (s : Scheduled) (done : List ℕ) (ms : List Moment) (i : ℕ) → may_happen parts s done ms ≡ true → is_in done i ≡ true → is_in (ran_in ms) i ≡ false
not_again parts s done [] i h e = refl
not_again parts s done (Tells t ∷ ms) i h e =
    let one = and_parts (is_accepted (refusal s t)) (may_end parts done t && may_happen parts (changed s t) done ms) h in
    let two = and_parts (may_end parts done t) (may_happen parts (changed s t) done ms) one.1 in
    not_again parts (changed s t) done ms i two.1 e
not_again parts s done (Runs j ∷ ms) i h e =
    let one = and_parts (may_run parts s done j) (may_happen parts s (j ∷ done) ms) h in
    let rest : is_in (ran_in ms) i ≡ false = not_again parts s (j ∷ done) ms i one.1 (in_second (j == i) (is_in done i) e) in
    by (j == i) refl (may parts s done j one.0).new rest
  where
    by : (b : Bool) → (j == i) ≡ b → is_in done j ≡ false → is_in (ran_in ms) i ≡ false → (b || is_in (ran_in ms) i) ≡ false
    by true t new rest = absurd (false≢true (sym new ∙ ap (is_in done) (eqb-true j i t) ∙ e))
    by false t new rest = rest

pub each_once : (parts : List ℕ) (s : Scheduled) (done : List ℕ) (ms : List Moment) → may_happen parts s done ms ≡ true → EachOnce (length parts) (ran_in ms)
each_once parts s done [] h = tt
each_once parts s done (Tells e ∷ ms) h =
    let one = and_parts (is_accepted (refusal s e)) (may_end parts done e && may_happen parts (changed s e) done ms) h in
    let two = and_parts (may_end parts done e) (may_happen parts (changed s e) done ms) one.1 in
    each_once parts (changed s e) done ms two.1
each_once parts s done (Runs i ∷ ms) h =
    let one = and_parts (may_run parts s done i) (may_happen parts s (i ∷ done) ms) h in
    ((may parts s done i one.0).there, (not_again parts s (i ∷ done) ms i one.1 (first_in i done), each_once parts s (i ∷ done) ms one.1))

-- a part of a command that has succeeded at the end has run before or in the history
pub ran_or_runs : (needs : List (List ℕ)) (parts : List ℕ) (s : Scheduled) (done : List ℕ) (ms : List Moment) (i : ℕ) → Kept needs parts s done → may_happen parts s done ms ≡ true → i < length parts
    → is_succeeded (state_at (after s (events_in ms)).states (get_or parts i 0)) ≡ true → (is_in done i ≡ true) ⊎ (is_in (ran_in ms) i ≡ true)
ran_or_runs needs parts s done [] i kept h there e = inl (part_ran parts done i (get_or parts i 0) there refl (kept.ran (get_or parts i 0) e))
ran_or_runs needs parts s done (Tells t ∷ ms) i kept h there e =
    let one = and_parts (is_accepted (refusal s t)) (may_end parts done t && may_happen parts (changed s t) done ms) h in
    let two = and_parts (may_end parts done t) (may_happen parts (changed s t) done ms) one.1 in
    ran_or_runs needs parts (changed s t) done ms i (told_kept needs parts s done t kept (accepted (refusal s t) one.0) two.0) two.1 there e
ran_or_runs needs parts s done (Runs j ∷ ms) i kept h there e =
    let one = and_parts (may_run parts s done j) (may_happen parts s (j ∷ done) ms) h in
    elim (ran_or_runs needs parts s (j ∷ done) ms i (ran_kept needs parts s done j kept) one.1 there e) [
      | inl k ↦ in_either (j == i) (is_in done i) (λ m. inr (in_first (j == i) (is_in (ran_in ms) i) m)) (λ m. inl m) k
      | inr k ↦ inr (in_second (j == i) (is_in (ran_in ms) i) k)
    ]
