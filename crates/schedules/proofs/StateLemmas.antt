-- What a change of one command's state changes.
use Rattle.std.proofs.Common.{◌≡◌, ℕ, zero, suc, ◌+◌, ◌<◌, ◌≤◌, min, List, [], ◌∷◌, Bool, true, false, cond, length, set, refl, sym, ap, ◌∙◌, arith}
use Rattle.std.specs.List.{count_by}
use Rattle.std.proofs.lemmas.Bool.Decides.{nat_tests}
use Rattle.std.proofs.lemmas.Grind.{common_steps}
use Rattle.std.proofs.lemmas.List.Sums.{sum_by-set}
use Rattle.schedules.specs.declared.command.AfterFailure.{AfterFailure}
use Rattle.schedules.specs.declared.command.AfterFailure.TheVariants.{StartNothing, StartEarlier, GoOn}
use Rattle.schedules.specs.declared.command.CommandState.{CommandState}
use Rattle.schedules.specs.declared.command.CommandState.TheVariants as kinds
use Rattle.schedules.specs.States.{is_bad, state_at, first_bad, limit, lowered}

-- how far no command is bad

first_by : (t : Bool) (n m : ℕ) → n ≤ m → cond t 0 (suc n) ≤ suc m
first_by true n m h = omega arith
first_by false n m h = omega arith

pub first_bad-le : (ss : List CommandState) → first_bad ss ≤ length ss
first_bad-le [] = omega arith
first_bad-le (s ∷ ss) = first_by (is_bad s) (first_bad ss) (length ss) (first_bad-le ss)

bad_by : (t : Bool) (b n c : ℕ) → c ≡ min b n → cond t 0 (suc c) ≡ min (cond t 0 (suc b)) (suc n)
bad_by true b n c e = grind arith
bad_by false b n c e = grind arith

pub first_bad-set : (ss : List CommandState) (n : ℕ) (state : CommandState) → n < length ss → is_bad (state_at ss n) ≡ false → is_bad state ≡ true → first_bad (set ss n state) ≡ min (first_bad ss) n
first_bad-set [] n state h e f = absurd (omega arith)
first_bad-set (s ∷ ss) zero state h e f = grind arith
first_bad-set (s ∷ ss) (suc n) state h e f = bad_by (is_bad s) (first_bad ss) n (first_bad (set ss n state)) (first_bad-set ss n state (omega arith) e f)

pub first_bad-same : (ss : List CommandState) (n : ℕ) (state : CommandState) → n < length ss → is_bad (state_at ss n) ≡ false → is_bad state ≡ false → first_bad (set ss n state) ≡ first_bad ss
first_bad-same [] n state h e f = refl
first_bad-same (s ∷ ss) zero state h e f = λ i. cond ((f ∙ sym e) i) 0 (suc (first_bad ss))
first_bad-same (s ∷ ss) (suc n) state h e f = ap (λ b. cond (is_bad s) 0 (suc b)) (first_bad-same ss n state (omega arith) e f)

-- the number below which commands may start

pub limit-le : (after : AfterFailure) (ss : List CommandState) → limit after ss ≤ length ss
limit-le StartNothing ss = grind arith
limit-le StartEarlier ss = first_bad-le ss
limit-le GoOn ss = omega arith

pub limit-set : (after : AfterFailure) (ss : List CommandState) (n : ℕ) (state : CommandState) → n < length ss → is_bad (state_at ss n) ≡ false → is_bad state ≡ true → limit after (set ss n state) ≡ lowered after (limit after ss) n
limit-set StartNothing ss n state h e f =
    let bad : first_bad (set ss n state) ≡ min (first_bad ss) n = first_bad-set ss n state h e f in
    grind (arith, nat_tests, common_steps)
limit-set StartEarlier ss n state h e f = first_bad-set ss n state h e f
limit-set GoOn ss n state h e f = grind (arith, common_steps)

pub limit-same : (after : AfterFailure) (ss : List CommandState) (n : ℕ) (state : CommandState) → n < length ss → is_bad (state_at ss n) ≡ false → is_bad state ≡ false → limit after (set ss n state) ≡ limit after ss
limit-same StartNothing ss n state h e f =
    let bad : first_bad (set ss n state) ≡ first_bad ss = first_bad-same ss n state h e f in
    grind (arith, nat_tests, common_steps)
limit-same StartEarlier ss n state h e f = first_bad-same ss n state h e f
limit-same GoOn ss n state h e f = grind (arith, common_steps)

-- how many run

pub count-set : (test : CommandState → Bool) (ss : List CommandState) (n : ℕ) (state : CommandState) → n < length ss → count_by test (set ss n state) + cond (test (state_at ss n)) 1 0 ≡ count_by test ss + cond (test state) 1 0
count-set test ss n state h = sum_by-set (λ s. cond (test s) 1 0) ss n state kinds.NotStarted h
