-- What the commands of a split need.
use Rattle.std.proofs.Common.{◌≡◌, ℕ, zero, suc, ◌+◌, ◌<◌, Bool, true, false, cond, ◌||◌, List, [], ◌∷◌, ◌++◌, refl, ap, sym, ◌∙◌, length, take, get_or, length-append, append_assoc, arith}
use Rattle.std.specs.Prelude.{nat_lt}
use Rattle.std.specs.List.{range_with_len}
use Rattle.std.proofs.lemmas.Bool.{false≢true, lt-ltb, ltb-true}
use Rattle.std.proofs.lemmas.List.{get_or_append_left, take-append-le}
use Rattle.std.proofs.Math.Seq.{take-append_seam}
use Rattle.command_files.specs.declared.steps.Role.TheVariants as roles
use Rattle.command_files.specs.declared.steps.Step.{Step}
use Rattle.command_files.specs.Files.{must_follow}
use Rattle.command_files.specs.Order.{needs_by, needs_at, numbers_where, files_at, Hold}
use Rattle.command_files.specs.PlanNeeds.{record_of, step_needs, role_needs}
use Rattle.command_files.proofs.NeedLemmas.{length-needs_behind, needs_each, needs_at_place}
use Rattle.command_files.proofs.OrderLemmas.{in_first, in_second}
use Rattle.early_starts.specs.declared.split.Places.{Places}
use Rattle.early_starts.specs.declared.split.Split.{Split}
use Rattle.early_starts.specs.LatePlans.{final_step, compiler_step, assembler_step, late_steps, records_of, late_needs, whole_needs, OthersNeedTheSame, LateNeedsHold}

-- a step that touches nothing
abbrev pub no_step : Step
no_step = record { files = record { reads = []; writes = []; may_write = []; complete = true }; role = roles.Plain; preprocesses = false }

-- Needs hold those of files.

pub length-records_of : (steps : List Step) → length (records_of steps) ≡ length steps
length-records_of [] = refl
length-records_of (s ∷ steps) = ap suc (length-records_of steps)

record_at : (steps : List Step) (n : ℕ) → files_at (records_of steps) n ≡ record_of (get_or steps n no_step).files
record_at [] n = refl
record_at (s ∷ steps) zero = refl
record_at (s ∷ steps) (suc n) = record_at steps n

pub steps_hold : (steps : List Step) → Hold must_follow (records_of steps) (needs_by step_needs steps)
steps_hold steps = record {
  each = length-needs_behind step_needs [] steps ∙ sym (length-records_of steps);
  needed = λ i j h k e.
      let size : length (records_of steps) ≡ length steps = length-records_of steps in
      let earlier : Step = get_or steps i no_step in
      let later : Step = get_or steps j no_step in
      needs_each step_needs no_step steps i j h (omega arith)
      (in_first (must_follow (record_of earlier.files) (record_of later.files)) (role_needs later.role earlier.role)
      (sym (λ at. must_follow (record_at steps i at) (record_at steps j at)) ∙ e));
}

pub late-needs-hold : LateNeedsHold
late-needs-hold places s front = steps_hold (late_steps places s front)

-- Numbers.

-- if all pass, all numbers
all_numbers : {X : Type 0} (test : X → Bool) → ((x : X) → test x ≡ true) → (n : ℕ) (xs : List X) → numbers_where test n xs ≡ range_with_len n (length xs)
all_numbers test f n [] = refl
all_numbers test f n (x ∷ xs) = λ i. cond (f x i) (n ∷ []) [] ++ all_numbers test f (n + 1) xs i

-- what a step needs depends on those before it alone
needs_behind_front : (front rest : List Step) (x : Step) (n : ℕ) → n < length front → needs_at (needs_by step_needs (front ++ x ∷ rest)) n ≡ numbers_where (λ e. step_needs e (get_or front n no_step)) 0 (take n front)
needs_behind_front front rest x n h =
    let size : length (front ++ x ∷ rest) ≡ length front + length (x ∷ rest) = length-append front (x ∷ rest) in
    needs_at_place step_needs no_step [] (front ++ x ∷ rest) n (omega (arith, h, size))
    ∙ (λ i. numbers_where (λ e. step_needs e (get_or_append_left front (x ∷ rest) no_step n h i)) 0 (take-append-le n front (x ∷ rest) (omega (arith, h)) i))

needs_of_next : (front rest : List Step) (x : Step) → needs_at (needs_by step_needs (front ++ x ∷ rest)) (length front) ≡ numbers_where (λ e. step_needs e x) 0 front
needs_of_next front rest x =
    let size : length (front ++ x ∷ rest) ≡ length front + length (x ∷ rest) = length-append front (x ∷ rest) in
    needs_at_place step_needs no_step [] (front ++ x ∷ rest) (length front) (omega (arith, size))
    ∙ (λ i. numbers_where (λ e. step_needs e (here i)) 0 (take-append_seam front (x ∷ rest) i))
  where
    here : get_or (front ++ x ∷ rest) (length front) no_step ≡ x
    here = at front
      where
        at : (ys : List Step) → get_or (ys ++ x ∷ rest) (length ys) no_step ≡ x
        at [] = refl
        at (y ∷ ys) = at ys

-- a final command needs all before it
final_numbers : (c : Step) (n : ℕ) (steps : List Step) → c.role ≡ roles.Final → numbers_where (λ e. step_needs e c) n steps ≡ range_with_len n (length steps)
final_numbers c n steps final = all_numbers (λ e. step_needs e c) needed n steps
  where
    needed : (e : Step) → (must_follow (record_of e.files) (record_of c.files) || role_needs c.role e.role) ≡ true
    needed e = in_second (must_follow (record_of e.files) (record_of c.files)) (role_needs c.role e.role) (ap (λ r. role_needs r e.role) final)

pub others-need-the-same : OthersNeedTheSame
others-need-the-same places s front fatbinary compile n h =
    elim (nat_lt n (length front)) as (λ b. nat_lt n (length front) ≡ b → needs_at (late_needs places s front) n ≡ needs_at (whole_needs front fatbinary compile) n) [
      | true ↦ λ t.
          let less : n < length front = ltb-true n (length front) t in
          needs_behind_front front (compiler_step s ∷ assembler_step places s ∷ []) (final_step s.fatbinary) n less
          ∙ sym (needs_behind_front front (final_step compile ∷ []) (final_step fatbinary) n less)
      | false ↦ λ t.
          let not_less : n < length front → ⊥ = λ k. false≢true (sym t ∙ lt-ltb n (length front) k) in
          let same : n ≡ length front = omega (arith, h, not_less) in
          ap (needs_at (late_needs places s front)) same
          ∙ needs_of_next front (compiler_step s ∷ assembler_step places s ∷ []) (final_step s.fatbinary)
          ∙ final_numbers (final_step s.fatbinary) 0 front refl
          ∙ sym (final_numbers (final_step fatbinary) 0 front refl)
          ∙ sym (needs_of_next front (final_step compile ∷ []) (final_step fatbinary))
          ∙ ap (needs_at (whole_needs front fatbinary compile)) (sym same)
    ] refl

-- the needs of the last of some steps with others behind it
needs_of_one_behind : (front between rest : List Step) (x : Step) (n : ℕ) → n ≡ length front + length between
    → needs_at (needs_by step_needs (front ++ (between ++ x ∷ rest))) n ≡ numbers_where (λ e. step_needs e x) 0 (front ++ between)
needs_of_one_behind front between rest x n e =
    ap (λ steps. needs_at (needs_by step_needs steps) n) (sym (append_assoc front between (x ∷ rest)))
    ∙ ap (needs_at (needs_by step_needs ((front ++ between) ++ x ∷ rest))) (e ∙ sym (length-append front between))
    ∙ needs_of_next (front ++ between) rest x

pub assembler-needs-all :
    (places : Places) (s : Split) (front : List Step) → needs_at (late_needs places s front) (length front + 2) ≡ range_with_len 0 (length front + 2)
assembler-needs-all places s front =
    needs_of_one_behind front (final_step s.fatbinary ∷ compiler_step s ∷ []) [] (assembler_step places s) (length front + 2) refl
    ∙ final_numbers (assembler_step places s) 0 (front ++ final_step s.fatbinary ∷ compiler_step s ∷ []) refl
    ∙ ap (range_with_len 0) (length-append front (final_step s.fatbinary ∷ compiler_step s ∷ []))
