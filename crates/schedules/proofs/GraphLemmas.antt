-- Graphs: which need comes too late, who needs whom, and what a schedule keeps before anything has started.
use Rattle.std.proofs.Common.{◌≡◌, ℕ, zero, suc, ◌+◌, ◌-◌, ◌<◌, ◌≤◌, ◌≢◌, List, [], ◌∷◌, ◌++◌, Bool, true, false, cond, ◌&&◌, ◌==◌, Option, Some, None, length, get_or, take, drop, map, replicate, refl, sym, ap, subst, ◌∙◌, append_assoc, arith}
use Rattle.std.specs.Prelude.{nat_lt, not}
use Rattle.std.proofs.lemmas.Bool.{false≢true, and_parts, eqb-true, eqb-false, ltb-true, ltb-false, lt-ltb}
use Rattle.std.proofs.lemmas.Bool.Decides.{nat_tests}
use Rattle.std.proofs.lemmas.Grind.{common_steps}
use Rattle.std.proofs.lemmas.List.{drop_more, get_or-map, length-map, length-set, length-append, length-replicate, get_or-set_same, get_or-set_other, set_past, take_all}
use Rattle.std.proofs.lemmas.List.Sums.{sum_by-cons}
use Rattle.schedules.specs.declared.command.AfterFailure.{AfterFailure}
use Rattle.schedules.specs.declared.command.AfterFailure.TheVariants.{StartNothing, StartEarlier, GoOn}
use Rattle.schedules.specs.declared.command.BadGraph.{BadGraph}
use Rattle.schedules.specs.declared.command.CommandState.{CommandState}
use Rattle.schedules.specs.declared.command.CommandState.TheVariants.{NotStarted}
use Rattle.schedules.specs.States.{is_running, is_succeeded, state_at, first_bad, limit}
use Rattle.schedules.specs.Scheduled.{running}
use Rattle.schedules.specs.Entered.{unmet, times, are_below, AreEntered}
use Rattle.schedules.specs.Kept.{AreTurned, IsCounted}
use Rattle.schedules.specs.Graphs.{first_late, late_fault, graph_fault, moved, joined_from, with_dependent, noted, all_noted}

-- Rows.

pub rest_is : {V : Type 0} (items : V → List ℕ) (all : List V) (n : ℕ) (v : V) → n < length all → v ≡ get_or all n v → drop n (map items all) ≡ items v ∷ drop (n + 1) (map items all)
rest_is items all n v h e =
    drop_more (map items all) n [] (omega (arith, h, length-map all items)) ∙ ap (λ r. r ∷ drop (n + 1) (map items all)) (get_or-map items all n v [] h ∙ ap items (sym e))

pub late_no : {V : Type 0} (items : V → List ℕ) (all : List V) (n : ℕ) (v : V) (ns : List ℕ) → n < length all → v ≡ get_or all n v → ns ≡ items v → are_below n ns ≡ false → first_late n (drop n (map items all)) ≡ Some n
late_no items all n v ns h e f late = ap (first_late n) (rest_is items all n v h e) ∙ ap (λ b. cond b (first_late (n + 1) (drop (n + 1) (map items all))) (Some n)) (ap (are_below n) (sym f) ∙ late)

pub late_yes : {V : Type 0} (items : V → List ℕ) (all : List V) (n : ℕ) (v : V) (ns : List ℕ) → n < length all → v ≡ get_or all n v → ns ≡ items v → are_below n ns ≡ true → first_late n (drop n (map items all)) ≡ first_late (n + 1) (drop (n + 1) (map items all))
late_yes items all n v ns h e f early = ap (first_late n) (rest_is items all n v h e) ∙ ap (λ b. cond b (first_late (n + 1) (drop (n + 1) (map items all))) (Some n)) (ap (are_below n) (sym f) ∙ early)

early_by : (t : Bool) (rest : Option ℕ) (n : ℕ) → cond t rest (Some n) ≡ None → (t ≡ true) × (rest ≡ None)
early_by true rest n e = (refl, e)
early_by false rest n e = cc

pub early : (n : ℕ) (ns : List ℕ) (rest : List (List ℕ)) → first_late n (ns ∷ rest) ≡ None → (are_below n ns ≡ true) × (first_late (n + 1) rest ≡ None)
early n ns rest e = early_by (are_below n ns) (first_late (n + 1) rest) n e

pub below_more : (m n : ℕ) (ns : List ℕ) → m ≤ n → are_below m ns ≡ true → are_below n ns ≡ true
below_more m n [] h e = refl
below_more m n (k ∷ ns) h e =
    let parts : (nat_lt k m ≡ true) × (are_below m ns ≡ true) = and_parts (nat_lt k m) (are_below m ns) e in
    (λ i. lt-ltb k n (omega (arith, ltb-true k m parts.0, h)) i && below_more m n ns h parts.1 i)

-- Joined plans.

pub joined_step : (joined more plan : List (List ℕ)) (rest : List (List (List ℕ))) (offset : ℕ) → offset ≡ length joined → more ≡ joined ++ map (map (moved offset)) plan → more ++ joined_from (length more) rest ≡ joined ++ joined_from (length joined) (plan ∷ rest)
joined_step joined more plan rest offset e f = grind (arith, common_steps, append_assoc, length-append, length-map)

pub plans_rest : {V W : Type 0} (f : V → W) (all : List V) (n : ℕ) (v : V) → n < length all → v ≡ get_or all n v → map f (drop n all) ≡ f v ∷ map f (drop (n + 1) all)
plans_rest f all n v h e = ap (map f) (drop_more all n v h) ∙ ap (λ w. f w ∷ map f (drop (n + 1) all)) (sym e)

-- Who needs whom.

pub length-noted : (n : ℕ) (rows : List (List ℕ)) (ns : List ℕ) → length (noted n rows ns) ≡ length rows
length-noted n rows [] = refl
length-noted n rows (m ∷ ms) = length-noted n (with_dependent n rows m) ms ∙ length-set rows m (get_or rows m [] ++ n ∷ [])

pub length-all_noted : (n : ℕ) (rows needs : List (List ℕ)) → length (all_noted n rows needs) ≡ length rows
length-all_noted n rows [] = refl
length-all_noted n rows (ns ∷ needs) = length-all_noted (n + 1) (noted n rows ns) needs ∙ length-noted n rows ns

times-push : (n k : ℕ) (xs : List ℕ) → times n (xs ++ k ∷ []) ≡ times n xs + cond (k == n) 1 0
times-push n k [] = omega arith
times-push n k (x ∷ xs) = omega (arith, times-push n k xs)

abbrev row : List (List ℕ) → ℕ → List ℕ
row rows m = get_or rows m []

-- one row gets one number
times_with : (k n m : ℕ) (rows : List (List ℕ)) (need : ℕ) → need < length rows → times n (row (with_dependent k rows need) m) ≡ times n (row rows m) + cond (need == m) (cond (k == n) 1 0) 0
times_with k n m rows need h =
    elim (need == m) as (λ t. (need == m) ≡ t → times n (row (with_dependent k rows need) m) ≡ times n (row rows m) + cond t (cond (k == n) 1 0) 0) [
      | true ↦ λ e.
          subst (λ j. times n (row (with_dependent k rows need) j) ≡ times n (row rows j) + cond (k == n) 1 0) (eqb-true need m e)
          (ap (times n) (get_or-set_same rows need (row rows need ++ k ∷ []) [] h) ∙ times-push n k (row rows need))
      | false ↦ λ e. omega (arith, ap (times n) (get_or-set_other rows need m (row rows need ++ k ∷ []) [] (λ f. eqb-false need m e (sym f))))
    ] refl

turn_by : (need_is it_is : Bool) (a b c t : ℕ) → a ≡ b + cond need_is (cond it_is 1 0) 0 → c ≡ a + cond it_is t 0 → c ≡ b + cond it_is (cond need_is 1 0 + t) 0
turn_by need_is it_is a b c t e f = grind arith

times-noted : (k n m : ℕ) (rows : List (List ℕ)) (ns : List ℕ) → are_below (length rows) ns ≡ true → times n (row (noted k rows ns) m) ≡ times n (row rows m) + cond (k == n) (times m ns) 0
times-noted k n m rows [] h = grind arith
times-noted k n m rows (need ∷ ns) h =
    let parts : (nat_lt need (length rows) ≡ true) × (are_below (length rows) ns ≡ true) = and_parts (nat_lt need (length rows)) (are_below (length rows) ns) h in
    turn_by (need == m) (k == n) (times n (row (with_dependent k rows need) m)) (times n (row rows m)) (times n (row (noted k (with_dependent k rows need) ns) m)) (times m ns)
    (times_with k n m rows need (ltb-true need (length rows) parts.0))
    (times-noted k n m (with_dependent k rows need) ns (ap (λ l. are_below l ns) (length-set rows need (row rows need ++ k ∷ [])) ∙ parts.1))

-- how often the command with a number, of those from a number on, needs another
abbrev needed_from : ℕ → ℕ → ℕ → List (List ℕ) → ℕ
needed_from k n m [] = 0
needed_from k n m (ns ∷ rest) = cond (k == n) (times m ns) 0 + needed_from (k + 1) n m rest

times-all_noted : (k n m : ℕ) (rows needs : List (List ℕ)) → k + length needs ≤ length rows → first_late k needs ≡ None → times n (row (all_noted k rows needs) m) ≡ times n (row rows m) + needed_from k n m needs
times-all_noted k n m rows [] h e = omega arith
times-all_noted k n m rows (ns ∷ needs) h e =
    let parts : (are_below k ns ≡ true) × (first_late (k + 1) needs ≡ None) = early k ns needs e in
    omega (
      arith,
      times-noted k n m rows ns (below_more k (length rows) ns (omega arith) parts.0),
      times-all_noted (k + 1) n m (noted k rows ns) needs (omega (arith, length-noted k rows ns, h)) parts.1,
    )

none_before : (k n m : ℕ) (needs : List (List ℕ)) → n < k → needed_from k n m needs ≡ 0
none_before k n m [] h = refl
none_before k n m (ns ∷ needs) h = grind (arith, nat_tests, none_before (k + 1) n m needs (omega arith))

needed_is : (k n m : ℕ) (needs : List (List ℕ)) → needed_from k (k + n) m needs ≡ times m (row needs n)
needed_is k n m [] = refl
needed_is k zero m (ns ∷ needs) = grind (arith, nat_tests, none_before (k + 1) (k + zero) m needs (omega arith))
needed_is k (suc n) m (ns ∷ needs) =
    let moved : (k + 1) + n ≡ k + suc n = omega arith in
    let rest : needed_from (k + 1) (k + suc n) m needs ≡ times m (row needs n) = subst (λ j. needed_from (k + 1) j m needs ≡ times m (row needs n)) moved (needed_is (k + 1) n m needs) in
    grind (arith, nat_tests)

are_below-push : (b k : ℕ) (xs : List ℕ) → are_below b xs ≡ true → k < b → are_below b (xs ++ k ∷ []) ≡ true
are_below-push b k [] e h = ap (λ t. t && true) (lt-ltb k b h)
are_below-push b k (x ∷ xs) e h =
    let parts : (nat_lt x b ≡ true) × (are_below b xs ≡ true) = and_parts (nat_lt x b) (are_below b xs) e in
    (λ i. parts.0 i && are_below-push b k xs parts.1 h i)

-- all rows have only numbers below a number
abbrev RowsBelow : ℕ → List (List ℕ) → Type 0
RowsBelow b rows = (m : ℕ) → are_below b (row rows m) ≡ true

below_with : (b k : ℕ) (rows : List (List ℕ)) (need : ℕ) → k < b → RowsBelow b rows → RowsBelow b (with_dependent k rows need)
below_with b k rows need h below m = by (nat_lt need (length rows)) refl (need == m) refl
  where
    by : (s : Bool) → nat_lt need (length rows) ≡ s → (t : Bool) → (need == m) ≡ t → are_below b (row (with_dependent k rows need) m) ≡ true
    by s f false e =
        let other : m ≢ need = λ g. eqb-false need m e (sym g) in
        ap (are_below b) (get_or-set_other rows need m (row rows need ++ k ∷ []) [] other) ∙ below m
    by true f true e =
        let is : need ≡ m = eqb-true need m e in
        subst (λ j. are_below b (row (with_dependent k rows need) j) ≡ true) is
        (ap (are_below b) (get_or-set_same rows need (row rows need ++ k ∷ []) [] (ltb-true need (length rows) f)) ∙ are_below-push b k (row rows need) (below need) h)
    by false f true e = ap (λ r. are_below b (row r m)) (set_past rows need (row rows need ++ k ∷ []) (ltb-false need (length rows) f)) ∙ below m

below_noted : (b k : ℕ) (rows : List (List ℕ)) (ns : List ℕ) → k < b → RowsBelow b rows → RowsBelow b (noted k rows ns)
below_noted b k rows [] h below = below
below_noted b k rows (need ∷ ns) h below = below_noted b k (with_dependent k rows need) ns h (below_with b k rows need h below)

below_all_noted : (b k : ℕ) (rows needs : List (List ℕ)) → k + length needs ≤ b → RowsBelow b rows → RowsBelow b (all_noted k rows needs)
below_all_noted b k rows [] h below = below
below_all_noted b k rows (ns ∷ needs) h below = below_all_noted b (k + 1) (noted k rows ns) needs (omega arith) (below_noted b k rows ns (omega arith) below)

empty_row : (count m : ℕ) → row (replicate count []) m ≡ []
empty_row zero m = refl
empty_row (suc count) zero = refl
empty_row (suc count) (suc m) = empty_row count m

pub turned : (needs : List (List ℕ)) → first_late 0 needs ≡ None → AreTurned needs (all_noted 0 (replicate (length needs) []) needs)
turned needs e = record {
  size = length-all_noted 0 (replicate (length needs) []) needs ∙ length-replicate {A = List ℕ} (length needs) [];
  within = λ m h. below_all_noted (length needs) 0 (replicate (length needs) []) needs (omega arith) (λ j. ap (are_below (length needs)) (empty_row (length needs) j)) m;
  turned = λ m n h k.
      let none : times n (row (replicate (length needs) []) m) ≡ 0 = ap (times n) (empty_row (length needs) m) in
      let some : times n (row (all_noted 0 (replicate (length needs) []) needs) m) ≡ times n (row (replicate (length needs) []) m) + needed_from 0 n m needs =
      times-all_noted 0 n m (replicate (length needs) []) needs (omega (arith, length-replicate {A = List ℕ} (length needs) [])) e in
      let zero_plus : 0 + n ≡ n = omega arith in
      let is : needed_from 0 n m needs ≡ times m (row needs n) = subst (λ j. needed_from 0 j m needs ≡ times m (row needs n)) zero_plus (needed_is 0 n m needs) in
      omega (arith, none, some, is);
}

-- Nothing has started.

pub unstarted : (count m : ℕ) → state_at (replicate count NotStarted) m ≡ NotStarted
unstarted zero m = refl
unstarted (suc count) zero = refl
unstarted (suc count) (suc m) = unstarted count m

unmet-unstarted : (count : ℕ) (ns : List ℕ) → unmet (replicate count NotStarted) ns ≡ length ns
unmet-unstarted count [] = refl
unmet-unstarted count (n ∷ ns) =
    let one : unmet (replicate count NotStarted) (n ∷ ns) ≡ 1 + unmet (replicate count NotStarted) ns = ap (λ s. cond (is_succeeded s) 0 1 + unmet (replicate count NotStarted) ns) (unstarted count n) in
    omega (arith, one, unmet-unstarted count ns)

none_bad : (count : ℕ) → first_bad (replicate count NotStarted) ≡ count
none_bad zero = refl
none_bad (suc count) = ap suc (none_bad count)

pub none_runs : (count : ℕ) → running (replicate count NotStarted) ≡ 0
none_runs zero = refl
none_runs (suc count) = omega (arith, sum_by-cons (λ s. cond (is_running s) 1 0) NotStarted (replicate count NotStarted), none_runs count)

all_allowed : (after : AfterFailure) (count : ℕ) → count ≡ limit after (replicate count NotStarted)
all_allowed StartNothing count =
    let bad : first_bad (replicate count NotStarted) ≡ count = none_bad count in
    let size : length (replicate count NotStarted) ≡ count = length-replicate count NotStarted in
    grind (arith, nat_tests)
all_allowed StartEarlier count = sym (none_bad count)
all_allowed GoOn count = sym (length-replicate count NotStarted)

refused : (b : Bool) (r : BadGraph) (rest : Option BadGraph) → cond b (Some r) rest ≡ None → (b ≡ false) × (rest ≡ None)
refused true r rest e = cc
refused false r rest e = (refl, e)

none_late : (late : Option ℕ) → late_fault late ≡ None → late ≡ None
none_late None e = refl
none_late (Some n) e = cc

pub record IsGood (needs : List (List ℕ)) (priorities slots : ℕ) : Type 0 where
  pub some_slot : 0 < slots
  pub as_many : priorities ≡ length needs
  pub in_time : first_late 0 needs ≡ None

not_false : (b : Bool) → not b ≡ false → b ≡ true
not_false true e = refl
not_false false e = absurd (false≢true (sym e))

pub good : (needs : List (List ℕ)) (priorities slots : ℕ) → graph_fault needs priorities slots ≡ None → IsGood needs priorities slots
good needs priorities slots e =
    let one = refused _ _ _ e in
    let two = refused _ _ _ one.1 in
    record {
      some_slot = let some : slots ≢ 0 = eqb-false slots 0 one.0 in omega arith;
      as_many = eqb-true priorities (length needs) (not_false (priorities == length needs) two.0);
      in_time = none_late (first_late 0 needs) two.1;
    }

pub fresh_kept : (needs dependents : List (List ℕ)) (priorities waiting tree : List ℕ) (slots count : ℕ) (after : AfterFailure) (states : List CommandState)
    → IsGood needs (length priorities) slots → count ≡ length needs → dependents ≡ all_noted 0 (replicate (length needs) []) needs → waiting ≡ map length needs
    → AreEntered priorities tree (replicate (length priorities) NotStarted) waiting (length priorities) → states ≡ replicate count NotStarted
    → IsCounted (record { needs = needs; priorities = priorities; slots = slots; after_failure = after; states = states }) dependents waiting tree 0 count
fresh_kept needs dependents priorities waiting tree slots count after states good size turned_is waiting_is entered states_is =
    let long : length states ≡ count = ap length states_is ∙ length-replicate count NotStarted in
    let start : replicate (length priorities) NotStarted ≡ states = ap (λ k. replicate k NotStarted) (good.as_many ∙ sym size) ∙ sym states_is in
    record {
      as_many_priorities = good.as_many ∙ sym size ∙ sym long;
      as_many_needs = sym size ∙ sym long;
      as_many_waiting = ap length waiting_is ∙ length-map needs length ∙ sym size ∙ sym long;
      turned = subst (AreTurned needs) (sym turned_is) (turned needs good.in_time);
      counted = λ n h.
          ap (λ w. get_or w n 0) waiting_is ∙ get_or-map length needs n [] 0 (omega (arith, h, long, size))
          ∙ sym (ap (λ s. unmet s (get_or needs n [])) states_is ∙ unmet-unstarted count (get_or needs n []));
      entered = subst (λ s. AreEntered priorities tree s waiting count) start (subst (AreEntered priorities tree (replicate (length priorities) NotStarted) waiting) (good.as_many ∙ sym size) entered);
      limited = all_allowed after count ∙ ap (limit after) (sym states_is);
      running_is = sym (ap running states_is ∙ none_runs count);
      some_slot = good.some_slot;
    }

pub filled : (count : ℕ) (old : List CommandState) (len : ℕ) → old ≡ [] → len ≡ 0 → take count old ++ replicate (count - len) NotStarted ≡ replicate count NotStarted
filled count old len e f =
    let all : count - 0 ≡ count = omega arith in
    (λ i. take count (e i) ++ replicate (count - f i) NotStarted) ∙ (λ i. take_all count [] (omega arith) i ++ replicate (all i) NotStarted)
