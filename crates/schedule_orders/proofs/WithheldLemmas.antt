-- Files that are withheld are given in time, and hold what their writers wrote.
use Rattle.std.proofs.Common.{◌≡◌, ℕ, zero, suc, ◌+◌, ◌<◌, List, [], ◌∷◌, ◌++◌, Bool, true, false, cond, ◌&&◌, ◌||◌, ◌==◌, Option, Some, None, map, length, take, get_or, refl, sym, ap, subst, ◌∙◌, arith, append_assoc, bytes_eq, IsPermutation}
use Rattle.std.specs.Prelude.{nat_lt, not}
use Rattle.std.specs.List.{filter, list_all, range_with_len}
use Rattle.std.proofs.lemmas.Bool.{false≢true, and_parts, eqb-true, eq-eqb, lt-ltb, not-true}
use Rattle.std.proofs.lemmas.List.{get_or-set_same, get_or-set_other}
use Rattle.std.proofs.lemmas.List.Folds.{list_any-append}
use Rattle.std.proofs.lemmas.Slice.Eq.{bytes_eq-Decides}
use Rattle.schedules.specs.declared.command.AfterFailure.{AfterFailure}
use Rattle.schedules.specs.declared.command.CommandState.{CommandState}
use Rattle.schedules.specs.declared.command.CommandState.TheVariants as kinds
use Rattle.schedules.specs.declared.command.Outcome.{Outcome}
use Rattle.schedules.specs.declared.command.Outcome.TheVariants as outcomes
use Rattle.schedules.specs.States.{is_waiting, is_running, state_at, ended_as}
use Rattle.schedules.specs.Scheduled.{Scheduled, with_state}
use Rattle.schedules.specs.Graphs.{fresh}
use Rattle.schedules.specs.Events.{Event, Started, Ended, refusal, changed}
use Rattle.schedules.proofs.KeptLemmas.{can_start, can_end, running_is}
use Rattle.command_files.specs.Files.{Files, is_among}
use Rattle.command_files.specs.Order.{is_in, is_ready, needs_at, files_at, IsOrder, IsRun, Contents, Effect, contents_after, contents_read, DoesTheSame}
use Rattle.command_files.specs.Overlap.{part_records}
use Rattle.command_files.proofs.OrderLemmas.{in_either, in_first, in_second, in_both, in_neither, all_pass, fails}
use Rattle.command_files.proofs.NeedLemmas.{all_from}
use Rattle.command_files.proofs.OverlapLemmas.{overlaps_agree}
use Rattle.schedule_orders.specs.Closed.{closed}
use Rattle.schedule_orders.specs.Histories.{Moment, Tells, Runs, ran_in, parts_of, may_run, may_end, is_accepted, may_happen}
use Rattle.schedule_orders.specs.Products.{needs_of_parts, own_parts}
use Rattle.schedule_orders.specs.Withheld.{Act, Does, Gives, Finds, moments_of, has_ended, may_go_on, may_do, may_act, readers_wait, GivesWhatWasWritten}
use Rattle.schedule_orders.proofs.HistoryLemmas.{accepted, each_once}
use Rattle.schedule_orders.proofs.ListLemmas.{EachOnce, the_rest, filter_all}
use Rattle.schedule_orders.proofs.ProductLemmas.{begins, runs, length-own_parts}

-- What holds at each moment: what has its file has been started, who has found one was given it, and who waits for one has done nothing before.
record Held (waits : ℕ → Bool) (parts : List ℕ) (s : Scheduled) (done given found : List ℕ) : Type 0 where
  begun : (n : ℕ) → is_in given n ≡ true → is_waiting (state_at s.states n) ≡ false
  handed : (n : ℕ) → is_in found n ≡ true → is_in given n ≡ true
  idle : (i : ℕ) → is_in done i ≡ true → waits (get_or parts i 0) ≡ true → is_in found (get_or parts i 0) ≡ true

held_first : (waits : ℕ → Bool) (parts : List ℕ) (s : Scheduled) → Held waits parts s [] [] []
held_first waits parts s = record {
  begun = λ n e. absurd (false≢true e);
  handed = λ n e. absurd (false≢true e);
  idle = λ i e w. absurd (false≢true e);
}

-- States.

ended_begun : (o : Outcome) → is_waiting (ended_as o) ≡ false
ended_begun outcomes.Success = refl
ended_begun outcomes.Failure = refl
ended_begun outcomes.Cancelled = refl

runs_if : (state : CommandState) → is_waiting state ≡ false → has_ended state ≡ false → is_running state ≡ true
runs_if kinds.NotStarted e f = absurd (false≢true (sym e))
runs_if kinds.Running e f = refl
runs_if kinds.Succeeded e f = absurd (false≢true (sym f))
runs_if kinds.Failed e f = absurd (false≢true (sym f))
runs_if kinds.Cancelled e f = absurd (false≢true (sym f))

-- a command that has been started stays so
stays_begun : (s : Scheduled) (n m : ℕ) (state : CommandState) → n < length s.states → is_waiting state ≡ false → is_waiting (state_at s.states m) ≡ false → is_waiting (state_at (with_state s n state).states m) ≡ false
stays_begun s n m state there e f = by (n == m) refl
  where
    by : (b : Bool) → (n == m) ≡ b → is_waiting (state_at (with_state s n state).states m) ≡ false
    by true k = subst (λ j. is_waiting (state_at (with_state s n state).states j) ≡ false) (eqb-true n m k) (ap is_waiting (get_or-set_same s.states n state kinds.NotStarted there) ∙ e)
    by false k = ap is_waiting (get_or-set_other s.states n m state kinds.NotStarted (λ g. false≢true (sym k ∙ eq-eqb n m (sym g)))) ∙ f

changed_begun : (s : Scheduled) (e : Event) (m : ℕ) → refusal s e ≡ None → is_waiting (state_at s.states m) ≡ false → is_waiting (state_at (changed s e).states m) ≡ false
changed_begun s (Started n) m may f = stays_begun s n m kinds.Running (can_start s n may).there refl f
changed_begun s (Ended n o) m may f = stays_begun s n m (ended_as o) (can_end s n may).there (ended_begun o) f

-- Each act keeps it.

told_held : (waits : ℕ → Bool) (parts : List ℕ) (s : Scheduled) (done given found : List ℕ) (e : Event) → Held waits parts s done given found → refusal s e ≡ None → Held waits parts (changed s e) done given found
told_held waits parts s done given found e held may = record {
  begun = λ n k. changed_begun s e n may (held.begun n k);
  handed = held.handed;
  idle = held.idle;
}

goes_on : (waits : ℕ → Bool) (parts : List ℕ) (s : Scheduled) (done given found : List ℕ) (n : ℕ) → Held waits parts s done given found → may_go_on waits s found n ≡ true
    → (is_running (state_at s.states n) ≡ true) × (waits n ≡ true → is_in found n ≡ true)
goes_on waits parts s done given found n held e = by (waits n) refl e
  where
    by : (b : Bool) → waits n ≡ b → (cond b (is_in found n && not (has_ended (state_at s.states n))) (is_running (state_at s.states n))) ≡ true
        → (is_running (state_at s.states n) ≡ true) × (waits n ≡ true → is_in found n ≡ true)
    by true w k =
        let both = and_parts (is_in found n) (not (has_ended (state_at s.states n))) k in
        (runs_if (state_at s.states n) (held.begun n (held.handed n both.0)) (not-true (has_ended (state_at s.states n)) both.1), λ v. both.0)
    by false w k = (k, λ v. absurd (false≢true (sym w ∙ v)))

record MayDo (waits : ℕ → Bool) (parts : List ℕ) (s : Scheduled) (done found : List ℕ) (i : ℕ) : Type 0 where
  runs : may_run parts s done i ≡ true
  idle : waits (get_or parts i 0) ≡ true → is_in found (get_or parts i 0) ≡ true

may : (waits : ℕ → Bool) (parts : List ℕ) (s : Scheduled) (done given found : List ℕ) (i : ℕ) → Held waits parts s done given found → may_do waits parts s done found i ≡ true → MayDo waits parts s done found i
may waits parts s done given found i held e =
    let n : ℕ = get_or parts i 0 in
    let others : Bool = not (is_in done i) && list_all (is_in done) (parts_of (take i parts) n) in
    let one = and_parts (nat_lt i (length parts)) (may_go_on waits s found n && others) e in
    let two = and_parts (may_go_on waits s found n) others one.1 in
    let goes = goes_on waits parts s done given found n held two.0 in
    record {
      runs = in_both (nat_lt i (length parts)) (is_running (state_at s.states n) && others) one.0 (in_both (is_running (state_at s.states n)) others goes.0 two.1);
      idle = goes.1;
    }

did_held : (waits : ℕ → Bool) (parts : List ℕ) (s : Scheduled) (done given found : List ℕ) (i : ℕ) → Held waits parts s done given found → (waits (get_or parts i 0) ≡ true → is_in found (get_or parts i 0) ≡ true) → Held waits parts s (i ∷ done) given found
did_held waits parts s done given found i held new = record {
  begun = held.begun;
  handed = held.handed;
  idle = λ j e w. in_either (i == j) (is_in done j)
      (λ k. subst (λ m. is_in found (get_or parts m 0) ≡ true) (eqb-true i j k) (new (subst (λ m. waits (get_or parts m 0) ≡ true) (sym (eqb-true i j k)) w)))
      (λ k. held.idle j k w) e;
}

gave_held : (waits : ℕ → Bool) (parts : List ℕ) (s : Scheduled) (done given found : List ℕ) (n : ℕ) → Held waits parts s done given found → is_running (state_at s.states n) ≡ true → Held waits parts s done (n ∷ given) found
gave_held waits parts s done given found n held runs = record {
  begun = λ m e. in_either (n == m) (is_in given m)
      (λ k. subst (λ j. is_waiting (state_at s.states j) ≡ false) (eqb-true n m k) (ap is_waiting (running_is (state_at s.states n) runs)))
      (held.begun m) e;
  handed = λ m e. in_second (n == m) (is_in given m) (held.handed m e);
  idle = held.idle;
}

found_held : (waits : ℕ → Bool) (parts : List ℕ) (s : Scheduled) (done given found : List ℕ) (n : ℕ) → Held waits parts s done given found → is_in given n ≡ true → Held waits parts s done given (n ∷ found)
found_held waits parts s done given found n held is = record {
  begun = held.begun;
  handed = λ m e. in_either (n == m) (is_in found m) (λ k. subst (λ j. is_in given j ≡ true) (eqb-true n m k) is) (held.handed m) e;
  idle = λ i e w. in_second (n == get_or parts i 0) (is_in found (get_or parts i 0)) (held.idle i e w);
}

-- Histories.

-- what may be done may happen
happens : (waits : ℕ → Bool) (parts : List ℕ) (s : Scheduled) (done given found : List ℕ) (acts : List Act) → Held waits parts s done given found
    → may_act waits parts s done given found acts ≡ true → readers_wait given acts ≡ true → may_happen parts s done (moments_of acts) ≡ true
happens waits parts s done given found [] held e w = refl
happens waits parts s done given found (Does (Tells t) ∷ later) held e w =
    let rest : Bool = may_act waits parts (changed s t) done given found later in
    let one = and_parts (is_accepted (refusal s t)) (may_end parts done t && rest) e in
    let two = and_parts (may_end parts done t) rest one.1 in
    in_both (is_accepted (refusal s t)) (may_end parts done t && may_happen parts (changed s t) done (moments_of later)) one.0
    (in_both (may_end parts done t) (may_happen parts (changed s t) done (moments_of later)) two.0
    (happens waits parts (changed s t) done given found later (told_held waits parts s done given found t held (accepted (refusal s t) one.0)) two.1 w))
happens waits parts s done given found (Does (Runs i) ∷ later) held e w =
    let one = and_parts (may_do waits parts s done found i) (may_act waits parts s (i ∷ done) given found later) e in
    let m = may waits parts s done given found i held one.0 in
    in_both (may_run parts s done i) (may_happen parts s (i ∷ done) (moments_of later)) m.runs
    (happens waits parts s (i ∷ done) given found later (did_held waits parts s done given found i held m.idle) one.1 w)
happens waits parts s done given found (Gives n ∷ later) held e w =
    let rest : Bool = may_act waits parts s done (n ∷ given) found later in
    let one = and_parts (is_running (state_at s.states n)) (not (is_in given n) && rest) e in
    let two = and_parts (not (is_in given n)) rest one.1 in
    happens waits parts s done (n ∷ given) found later (gave_held waits parts s done given found n held one.0) two.1 w
happens waits parts s done given found (Finds n ∷ later) held e w =
    let one = and_parts (is_in given n) (readers_wait given later) w in
    happens waits parts s done given (n ∷ found) later (found_held waits parts s done given found n held one.0) e one.1

pub may-happen : (needs : List (List ℕ)) (waits : ℕ → Bool) (priorities : List ℕ) (slots : ℕ) (setting : AfterFailure) (parts : List ℕ) (acts : List Act)
    → may_act waits parts (fresh needs priorities slots setting) [] [] [] acts ≡ true → readers_wait [] acts ≡ true
    → may_happen parts (fresh needs priorities slots setting) [] (moments_of acts) ≡ true
may-happen needs waits priorities slots setting parts acts e w =
    happens waits parts (fresh needs priorities slots setting) [] [] [] acts (held_first waits parts (fresh needs priorities slots setting)) e w

-- the first part of a command may run once the command is given its file
first_runs : (waits : ℕ → Bool) (parts : List ℕ) (s : Scheduled) (done given found : List ℕ) (n i : ℕ) → Held waits parts s done given found
    → is_running (state_at s.states n) ≡ true → is_in given n ≡ false → waits n ≡ true → nat_lt i (length parts) ≡ true → get_or parts i 0 ≡ n → parts_of (take i parts) n ≡ []
    → may_run parts s done i ≡ true
first_runs waits parts s done given found n i held runs new w there is none =
    let at : ℕ = get_or parts i 0 in
    let before : Bool = list_all (is_in done) (parts_of (take i parts) at) in
    let unrun : is_in done i ≡ false =
    fails (is_in done i) (λ k. false≢true (sym new ∙ subst (λ m. is_in given m ≡ true) is (held.handed at (held.idle i k (subst (λ m. waits m ≡ true) (sym is) w))))) in
    let all : before ≡ true = subst (λ m. list_all (is_in done) (parts_of (take i parts) m) ≡ true) (sym is) (ap (list_all (is_in done)) none) in
    in_both (nat_lt i (length parts)) (is_running (state_at s.states at) && (not (is_in done i) && before)) there
    (in_both (is_running (state_at s.states at)) (not (is_in done i) && before) (subst (λ m. is_running (state_at s.states m) ≡ true) (sym is) runs)
    (in_both (not (is_in done i)) before (ap not unrun) all))

then_runs : (waits : ℕ → Bool) (parts : List ℕ) (s : Scheduled) (done given found : List ℕ) (before after : List Act) (n i : ℕ) → Held waits parts s done given found
    → may_act waits parts s done given found (before ++ Gives n ∷ after) ≡ true → readers_wait given (before ++ Gives n ∷ after) ≡ true
    → waits n ≡ true → nat_lt i (length parts) ≡ true → get_or parts i 0 ≡ n → parts_of (take i parts) n ≡ []
    → may_happen parts s done (moments_of before ++ Runs i ∷ []) ≡ true
then_runs waits parts s done given found [] after n i held e w wait there is none =
    let rest : Bool = may_act waits parts s done (n ∷ given) found after in
    let one = and_parts (is_running (state_at s.states n)) (not (is_in given n) && rest) e in
    let two = and_parts (not (is_in given n)) rest one.1 in
    in_both (may_run parts s done i) true (first_runs waits parts s done given found n i held one.0 (not-true (is_in given n) two.0) wait there is none) refl
then_runs waits parts s done given found (Does (Tells t) ∷ later) after n i held e w wait there is none =
    let rest : Bool = may_act waits parts (changed s t) done given found (later ++ Gives n ∷ after) in
    let one = and_parts (is_accepted (refusal s t)) (may_end parts done t && rest) e in
    let two = and_parts (may_end parts done t) rest one.1 in
    let happened : Bool = may_happen parts (changed s t) done (moments_of later ++ Runs i ∷ []) in
    in_both (is_accepted (refusal s t)) (may_end parts done t && happened) one.0
    (in_both (may_end parts done t) happened two.0
    (then_runs waits parts (changed s t) done given found later after n i (told_held waits parts s done given found t held (accepted (refusal s t) one.0)) two.1 w wait there is none))
then_runs waits parts s done given found (Does (Runs j) ∷ later) after n i held e w wait there is none =
    let one = and_parts (may_do waits parts s done found j) (may_act waits parts s (j ∷ done) given found (later ++ Gives n ∷ after)) e in
    let m = may waits parts s done given found j held one.0 in
    in_both (may_run parts s done j) (may_happen parts s (j ∷ done) (moments_of later ++ Runs i ∷ [])) m.runs
    (then_runs waits parts s (j ∷ done) given found later after n i (did_held waits parts s done given found j held m.idle) one.1 w wait there is none)
then_runs waits parts s done given found (Gives m ∷ later) after n i held e w wait there is none =
    let rest : Bool = may_act waits parts s done (m ∷ given) found (later ++ Gives n ∷ after) in
    let one = and_parts (is_running (state_at s.states m)) (not (is_in given m) && rest) e in
    let two = and_parts (not (is_in given m)) rest one.1 in
    then_runs waits parts s done (m ∷ given) found later after n i (gave_held waits parts s done given found m held one.0) two.1 w wait there is none
then_runs waits parts s done given found (Finds m ∷ later) after n i held e w wait there is none =
    let one = and_parts (is_in given m) (readers_wait given (later ++ Gives n ∷ after)) w in
    then_runs waits parts s done given (m ∷ found) later after n i (found_held waits parts s done given found m held one.0) e one.1 wait there is none

-- What a part reads.

ran_append : (ms : List Moment) (i : ℕ) → ran_in (ms ++ Runs i ∷ []) ≡ ran_in ms ++ i ∷ []
ran_append [] i = refl
ran_append (Tells e ∷ ms) i = ran_append ms i
ran_append (Runs j ∷ ms) i = ap (λ js. j ∷ js) (ran_append ms i)

-- when its turn comes
read_at : (files : ℕ → Files) (effects : ℕ → Effect) (i : ℕ) (before rest : List ℕ) (c : Contents) → is_in before i ≡ false → contents_read files effects i (before ++ i ∷ rest) c ≡ Some (map (contents_after effects before c) (files i).reads)
read_at files effects i [] rest c new = ap (λ b. cond b (Some (map c (files i).reads)) (contents_read files effects i rest (effects i c))) (eq-eqb i i refl)
read_at files effects i (j ∷ before) rest c new = by (j == i) refl new (λ e. read_at files effects i before rest (effects j c) e)
  where
    by : (b : Bool) → (j == i) ≡ b → (b || is_in before i) ≡ false
        → (is_in before i ≡ false → contents_read files effects i (before ++ i ∷ rest) (effects j c) ≡ Some (map (contents_after effects before (effects j c)) (files i).reads))
        → contents_read files effects i (j ∷ before ++ i ∷ rest) c ≡ Some (map (contents_after effects (j ∷ before) c) (files i).reads)
    by true k e ih = absurd (false≢true (sym e))
    by false k e ih = ap (λ b. cond b (Some (map c (files j).reads)) (contents_read files effects i (before ++ i ∷ rest) (effects j c))) k ∙ ih e

-- in the graph's own order
turn : (files : ℕ → Files) (effects : ℕ → Effect) (k a i m : ℕ) → a + i ≡ k → i < m → (c : Contents) → contents_read files effects k (range_with_len a m) c ≡ Some (map (contents_after effects (range_with_len a i) c) (files k).reads)
turn files effects k a i zero e h c = absurd (omega (arith, h))
turn files effects k a zero (suc m) e h c =
    let same : a ≡ k = omega (arith, e) in
    ap (λ b. cond b (Some (map c (files a).reads)) (contents_read files effects k (range_with_len (a + 1) m) (effects a c))) (eq-eqb a k same)
    ∙ ap (λ n. Some (map c (files n).reads)) same
turn files effects k a (suc i) (suc m) e h c =
    let other : (a == k) ≡ false = fails (a == k) (λ q. let same : a ≡ k = eqb-true a k q in omega (arith, e, same)) in
    ap (λ b. cond b (Some (map c (files a).reads)) (contents_read files effects k (range_with_len (a + 1) m) (effects a c))) other
    ∙ turn files effects k (a + 1) i m (omega (arith, e)) (omega (arith, h)) (effects a c)

abbrev found_in : {X : Type 0} → Option (List X) → List X
found_in None = []
found_in (Some xs) = xs

abbrev behind_first : {X : Type 0} → List X → List X
behind_first [] = []
behind_first (x ∷ xs) = xs

-- files that hold the same, one by one
same_files : (one other : Contents) (files : List (List ℕ)) → map one files ≡ map other files → (file : List ℕ) → is_among files file ≡ true → one file ≡ other file
same_files one other [] e file k = absurd (false≢true k)
same_files one other (x ∷ xs) e file k =
    in_either (bytes_eq file x) (is_among xs file)
    (λ b. subst (λ y. one y ≡ other y) (sym ((bytes_eq-Decides file x).0 b)) (ap (λ ys. get_or ys 0 (one x)) e))
    (λ b. same_files one other xs (ap behind_first e) file b) k

record_at : (records : List Files) (parts : List ℕ) (i : ℕ) → i < length parts → files_at (part_records records parts) i ≡ files_at records (get_or parts i 0)
record_at records [] i h = absurd (omega (arith, h))
record_at records (p ∷ ps) zero h = refl
record_at records (p ∷ ps) (suc i) h = record_at records ps i (omega (arith, h))

-- Orders.

in_filtered : (test : ℕ → Bool) (xs : List ℕ) (x : ℕ) → is_in xs x ≡ true → test x ≡ true → is_in (filter test xs) x ≡ true
in_filtered test [] x e t = absurd (false≢true e)
in_filtered test (y ∷ ys) x e t = by (test y) refl (λ q. in_filtered test ys x q t)
  where
    by : (b : Bool) → test y ≡ b → (is_in ys x ≡ true → is_in (filter test ys) x ≡ true) → is_in (cond b (y ∷ filter test ys) (filter test ys)) x ≡ true
    by true k ih = in_either (y == x) (is_in ys x) (λ q. in_first (y == x) (is_in (filter test ys) x) q) (λ q. in_second (y == x) (is_in (filter test ys) x) (ih q)) e
    by false k ih = in_either (y == x) (is_in ys x) (λ q. absurd (false≢true (sym k ∙ ap test (eqb-true y x q) ∙ t))) ih e

-- each is in what has run, or in the rest
all_in : (ran : List ℕ) (bound x : ℕ) → is_in (range_with_len 0 bound) x ≡ true → is_in (ran ++ the_rest ran bound) x ≡ true
all_in ran bound x e = list_any-append (λ m. m == x) ran (the_rest ran bound) ∙ by (is_in ran x) refl
  where
    by : (b : Bool) → is_in ran x ≡ b → (b || is_in (the_rest ran bound) x) ≡ true
    by true k = refl
    by false k = in_filtered (λ n. not (is_in ran n)) (range_with_len 0 bound) x e (ap not k)

-- the last is none of the others
last_new : (bound : ℕ) (ran : List ℕ) (i : ℕ) → EachOnce bound (ran ++ i ∷ []) → is_in ran i ≡ false
last_new bound [] i h = refl
last_new bound (r ∷ rs) i h =
    in_neither (r == i) (is_in rs i)
    (fails (r == i) (λ q. false≢true (sym h.1.0 ∙ list_any-append (λ m. m == r) rs (i ∷ []) ∙ in_second (is_in rs r) ((i == r) || false) (in_first (i == r) false (eq-eqb i r (sym (eqb-true r i q)))))))
    (last_new bound rs i h.1.1)

turned : (a b c : Bool) → ((a || b) || c) ≡ true → (b || (a || c)) ≡ true
turned true true c e = refl
turned true false c e = refl
turned false true c e = refl
turned false false c e = e

-- what the last needs is among the others
ready_last : (needs : ℕ → List ℕ) (done xs : List ℕ) (i m : ℕ) → is_ready needs done (xs ++ i ∷ []) ≡ true → is_in (needs i) m ≡ true → (is_in done m || is_in xs m) ≡ true
ready_last needs done [] i m e k = in_first (is_in done m) false (all_pass (is_in done) (needs i) m (and_parts (list_all (is_in done) (needs i)) true e).0 k)
ready_last needs done (x ∷ xs) i m e k =
    turned (x == m) (is_in done m) (is_in xs m)
    (ready_last needs (x ∷ done) xs i m (and_parts (list_all (is_in done) (needs x)) (is_ready needs (x ∷ done) (xs ++ i ∷ [])) e).1 k)

pub gives-what-was-written : GivesWhatWasWritten
gives-what-was-written records needs waits priorities slots setting parts acts e w before n i effects contents holds are within given =
    let s : Scheduled = fresh needs priorities slots setting in
    let ms : List Moment = moments_of before ++ Runs i ∷ [] in
    let ran : List ℕ = ran_in (moments_of before) in
    let happened : may_happen parts s [] ms ≡ true =
    then_runs waits parts s [] [] [] before given.after n i (held_first waits parts s) (subst (λ all. may_act waits parts s [] [] [] all ≡ true) given.here e)
    (subst (λ all. readers_wait [] all ≡ true) given.here w) given.late (lt-ltb i (length parts) given.there) given.own given.first in
    let rest : List ℕ = the_rest (ran_in ms) (length parts) in
    let order : IsOrder (needs_of_parts needs parts) (ran_in ms ++ rest) = begins records needs priorities slots setting parts ms happened in
    let own : List ℕ = own_parts needs parts in
    let all : filter (is_in (ran_in ms ++ rest)) own ≡ own =
    filter_all (is_in (ran_in ms ++ rest)) own (λ x k. all_in (ran_in ms) (length parts) x (subst (λ xs. is_in xs x ≡ true) (length-own_parts needs parts) k)) in
    let run : IsRun (needs_of_parts needs parts) (ran_in ms ++ rest) =
    record { each_once = subst (λ xs. IsPermutation xs (ran_in ms ++ rest)) (sym all) order.each_once; ready = order.ready } in
    let does : DoesTheSame (part_records records parts) effects contents (ran_in ms ++ rest) (filter (is_in (ran_in ms ++ rest)) own) =
    overlaps_agree records (closed needs) parts (ran_in ms ++ rest) effects contents holds are run within in
    let files : ℕ → Files = files_at (part_records records parts) in
    let behind : ran_in ms ++ rest ≡ ran ++ i ∷ rest = ap (λ xs. xs ++ rest) (ran_append (moments_of before) i) ∙ append_assoc ran (i ∷ []) rest in
    let new : is_in ran i ≡ false = last_new (length parts) ran i (subst (λ xs. EachOnce (length parts) xs) (ran_append (moments_of before) i) (each_once parts s [] ms happened)) in
    let here : contents_read files effects i (ran_in ms ++ rest) contents ≡ Some (map (contents_after effects ran contents) (files i).reads) =
    ap (λ xs. contents_read files effects i xs contents) behind ∙ read_at files effects i ran rest contents new in
    let place : 0 + i ≡ i = omega arith in
    let in_order : contents_read files effects i (filter (is_in (ran_in ms ++ rest)) own) contents ≡ Some (map (contents_after effects (range_with_len 0 i) contents) (files i).reads) =
    ap (λ xs. contents_read files effects i xs contents) (all ∙ length-own_parts needs parts) ∙ turn files effects i 0 i (length parts) place given.there contents in
    let same : map (contents_after effects ran contents) (files i).reads ≡ map (contents_after effects (range_with_len 0 i) contents) (files i).reads =
    ap found_in (sym here ∙ does.reads i ∙ in_order) in
    let record_is : files i ≡ files_at records n = record_at records parts i given.there ∙ ap (files_at records) given.own in
    let ready : is_ready (needs_at (needs_of_parts needs parts)) [] (ran ++ i ∷ []) ≡ true =
    subst (λ xs. is_ready (needs_at (needs_of_parts needs parts)) [] xs ≡ true) (ran_append (moments_of before) i) (runs records needs priorities slots setting parts ms happened).ready in
    record {
      behind = all_from (is_in ran) (needs_at (needs_of_parts needs parts) i) (λ m k. ready_last (needs_at (needs_of_parts needs parts)) [] ran i m ready k);
      same = λ file k. same_files (contents_after effects ran contents) (contents_after effects (range_with_len 0 i) contents) (files i).reads same file (subst (λ (r : Files). is_among r.reads file ≡ true) (sym record_is) k);
    }
