-- How often numbers are listed, and how many needs are unmet.
use Rattle.std.proofs.Common.{◌≡◌, ℕ, ◌+◌, ◌<◌, ◌≢◌, List, [], ◌∷◌, Bool, true, false, cond, ◌&&◌, ◌==◌, length, get_or, set, drop, refl, ap, arith}
use Rattle.std.proofs.lemmas.Bool.{eqb-true, eqb-false}
use Rattle.std.proofs.lemmas.Bool.Decides.{nat_tests}
use Rattle.std.proofs.lemmas.List.{drop_more, get_or-set_same, get_or-set_other}
use Rattle.std.specs.List.{list_all}
use Rattle.schedules.specs.declared.command.CommandState.{CommandState}
use Rattle.schedules.specs.declared.command.CommandState.TheVariants as kinds
use Rattle.schedules.specs.States.{is_succeeded, state_at}
use Rattle.schedules.specs.Entered.{times, unmet}

pub times-drop : (n : ℕ) (xs : List ℕ) (i : ℕ) → i < length xs → times n (drop i xs) ≡ cond (get_or xs i 0 == n) 1 0 + times n (drop (i + 1) xs)
times-drop n xs i h = ap (times n) (drop_more xs i 0 h)

-- all are met exactly if none is unmet
met_by : (t : Bool) (n : ℕ) (all : Bool) → (n == 0) ≡ all → ((cond t 0 1 + n) == 0) ≡ (t && all)
met_by true n all e = grind arith
met_by false n all e = grind (arith, nat_tests)

pub met-unmet : (states : List CommandState) (ns : List ℕ) → (unmet states ns == 0) ≡ list_all (λ m. is_succeeded (state_at states m)) ns
met-unmet states [] = refl
met-unmet states (m ∷ ms) = met_by (is_succeeded (state_at states m)) (unmet states ms) (list_all (λ n. is_succeeded (state_at states n)) ms) (met-unmet states ms)

-- A command that succeeds is met everywhere.

abbrev not_met : List CommandState → ℕ → ℕ
not_met states m = cond (is_succeeded (state_at states m)) 0 1

-- at another command nothing changes
met_elsewhere : (states : List CommandState) (n m : ℕ) (state : CommandState) → m ≢ n → state_at (set states n state) m ≡ state_at states m
met_elsewhere states n m state h = get_or-set_other states n m state kinds.NotStarted h

met_there : (states : List CommandState) (n : ℕ) (state : CommandState) → n < length states → state_at (set states n state) n ≡ state
met_there states n state h = get_or-set_same states n state kinds.NotStarted h

met_now : (states : List CommandState) (n m : ℕ) → n < length states → is_succeeded (state_at states n) ≡ false → not_met (set states n kinds.Succeeded) m + cond (m == n) 1 0 ≡ not_met states m
met_now states n m h e =
    elim (m == n) as (λ t. (m == n) ≡ t → not_met (set states n kinds.Succeeded) m + cond t 1 0 ≡ not_met states m) [
      | true ↦ λ same. let is : m ≡ n = eqb-true m n same in grind (arith, met_there states n kinds.Succeeded h)
      | false ↦ λ other. let is : m ≢ n = eqb-false m n other in grind (arith, met_elsewhere states n m kinds.Succeeded is)
    ] refl

pub unmet-succeeded : (states : List CommandState) (n : ℕ) (ns : List ℕ) → n < length states → is_succeeded (state_at states n) ≡ false → unmet (set states n kinds.Succeeded) ns + times n ns ≡ unmet states ns
unmet-succeeded states n [] h e = refl
unmet-succeeded states n (m ∷ ms) h e = omega (arith, met_now states n m h e, unmet-succeeded states n ms h e)

-- a command that doesn't succeed changes nothing for others
same_now : (states : List CommandState) (n m : ℕ) (state : CommandState) → n < length states → is_succeeded (state_at states n) ≡ false → is_succeeded state ≡ false → is_succeeded (state_at (set states n state) m) ≡ is_succeeded (state_at states m)
same_now states n m state h e f =
    elim (m == n) as (λ t. (m == n) ≡ t → is_succeeded (state_at (set states n state) m) ≡ is_succeeded (state_at states m)) [
      | true ↦ λ same. let is : m ≡ n = eqb-true m n same in grind (arith, met_there states n state h)
      | false ↦ λ other. let is : m ≢ n = eqb-false m n other in grind (arith, met_elsewhere states n m state is)
    ] refl

pub unmet-same : (states : List CommandState) (n : ℕ) (state : CommandState) (ns : List ℕ) → n < length states → is_succeeded (state_at states n) ≡ false → is_succeeded state ≡ false → unmet (set states n state) ns ≡ unmet states ns
unmet-same states n state [] h e f = refl
unmet-same states n state (m ∷ ms) h e f = λ i. cond (same_now states n m state h e f i) 0 1 + unmet-same states n state ms h e f i
