-- Plans: their needs hold the needs of files, and their own order is an order.
use Rattle.std.proofs.Common.{◌≡◌, ℕ, zero, suc, ◌+◌, ◌-◌, ◌<◌, List, [], ◌∷◌, ◌++◌, Bool, true, false, cond, ◌||◌, ◌==◌, map, length, get_or, refl, sym, ap, ◌∙◌, arith}
use Rattle.std.specs.List.{list_all}
use Rattle.std.proofs.lemmas.Bool.{false≢true, and_parts, eqb-true, eq-eqb, lt-ltb, ltb-true}
use Rattle.std.proofs.lemmas.List.{map-append}
use Rattle.std.proofs.lemmas.List.Folds.{list_all-append}
use Rattle.std.proofs.lemmas.List.Sorted.{IsPermutation-refl}
use Rattle.compilers.specs.declared.plans.plan.NvccGeneratedSubcommand.{NvccGeneratedSubcommand}
use Rattle.compilers.specs.declared.plans.plan.Plan.{Plan}
use Rattle.compilers.specs.Listed.{Listed, listed_group, listed_from}
use Rattle.command_files.specs.declared.steps.Role.{Role}
use Rattle.command_files.specs.declared.steps.Role.TheVariants as roles
use Rattle.command_files.specs.declared.steps.Step.{Step}
use Rattle.command_files.specs.Files.{Files, must_follow}
use Rattle.command_files.specs.Order.{needs_by, needs_at, is_in, are_ordered, files_at, Effect, AllStayWithin, Hold}
use Rattle.command_files.specs.PlanNeeds.{record_of, role_of, step_in, plan_steps, plan_records, plan_needs, role_needs, step_needs}
use Rattle.command_files.specs.PlanOrders.{is_final, is_recorded, FinalHasOnePlace, OthersStayWithin, PlanOrdersAgree, PlanRunsAgree, PlanOrderIsOne, RecordsSuffice}
use Rattle.command_files.proofs.NeedLemmas.{length-needs_behind, needs_each, all_from, own_order_ready}
use Rattle.command_files.proofs.OrderLemmas.{in_either, in_first, in_second, in_both, fails, in_range, orders_agree, runs_agree}

-- a step that touches nothing
abbrev no_step : Step
no_step = record { files = record { reads = []; writes = []; may_write = []; complete = true }; role = roles.Plain; preprocesses = false }

abbrev records_of : List Step → List Files
records_of steps = map record_of (map (λ s. s.files) steps)

length-records_of : (steps : List Step) → length (records_of steps) ≡ length steps
length-records_of [] = refl
length-records_of (s ∷ steps) = ap suc (length-records_of steps)

record_at : (steps : List Step) (n : ℕ) → files_at (records_of steps) n ≡ record_of (get_or steps n no_step).files
record_at [] n = refl
record_at (s ∷ steps) zero = refl
record_at (s ∷ steps) (suc n) = record_at steps n

steps_hold : (steps : List Step) → Hold must_follow (records_of steps) (needs_by step_needs steps)
steps_hold steps = record {
  each = length-needs_behind step_needs [] steps ∙ sym (length-records_of steps);
  needed = λ i j h k e.
      let size : length (records_of steps) ≡ length steps = length-records_of steps in
      let earlier : Step = get_or steps i no_step in
      let later : Step = get_or steps j no_step in
      needs_each step_needs no_step steps i j h (omega arith)
      (in_first (must_follow (record_of earlier.files) (record_of later.files)) (role_needs later.role earlier.role)
      (sym (λ at. must_follow (record_at steps i at) (record_at steps j at)) ∙ e));
}

-- Final commands.

abbrev all_final : List Step → Bool
all_final steps = list_all (λ s. is_final s.role) steps

-- all steps behind a final one are final
abbrev FinalLast : List Step → Type 0
FinalLast [] = Unit {0}
FinalLast (s ∷ steps) = (is_final s.role ≡ true → all_final steps ≡ true) × FinalLast steps

-- whether a group is the final one
abbrev is_last : ℕ → ℕ → Bool
is_last count group = cond (group == 0) false (count - group == 1)

final_by_group : (count group : ℕ) (compiles : Bool) → is_final (role_of count group compiles) ≡ is_last count group
final_by_group count group compiles = grind arith

last_group : (count group place : ℕ) (commands : List NvccGeneratedSubcommand) → is_last count group ≡ true → all_final (map (step_in count) (listed_group group place commands)) ≡ true
last_group count group place [] e = refl
last_group count group place (c ∷ cs) e = simp (in_both, final_by_group, (last_group count group (place + 1) cs e))

final_last_in : (count group place : ℕ) (commands : List NvccGeneratedSubcommand) (rest : List Listed) → (is_last count group ≡ true → all_final (map (step_in count) rest) ≡ true) → FinalLast (map (step_in count) rest) → FinalLast (map (step_in count) (listed_group group place commands ++ rest))
final_last_in count group place [] rest behind h = h
final_last_in count group place (c ∷ cs) rest behind h = grind (arith, final_by_group, map-append, list_all-append, in_both, last_group, (final_last_in count group (place + 1) cs rest behind h))

none_behind : (count group : ℕ) (groups : List (List NvccGeneratedSubcommand)) → group + suc (length groups) ≡ count → is_last count group ≡ true → all_final (map (step_in count) (listed_from (group + 1) groups)) ≡ true
none_behind count group [] e last = refl
none_behind count group (g ∷ gs) e last = grind (arith, eqb-true)

final_last : (count group : ℕ) (groups : List (List NvccGeneratedSubcommand)) → group + length groups ≡ count → FinalLast (map (step_in count) (listed_from group groups))
final_last count group [] e = tt
final_last count group (g ∷ gs) e = grind (arith, final_last_in, none_behind, (final_last count (group + 1) gs (omega arith)))

final_of_all : (steps : List Step) (n : ℕ) → n < length steps → all_final steps ≡ true → is_final (get_or steps n no_step).role ≡ true
final_of_all [] n h e = absurd (omega arith)
final_of_all (s ∷ steps) zero h e = (and_parts (is_final s.role) (all_final steps) e).0
final_of_all (s ∷ steps) (suc n) h e = final_of_all steps n (omega arith) (and_parts (is_final s.role) (all_final steps) e).1

final_behind : (steps : List Step) (i j : ℕ) → FinalLast steps → i < j → j < length steps → is_final (get_or steps i no_step).role ≡ true → is_final (get_or steps j no_step).role ≡ true
final_behind [] i j last h k e = absurd (omega arith)
final_behind (s ∷ steps) i zero last h k e = absurd (omega arith)
final_behind (s ∷ steps) zero (suc j) last h k e = final_of_all steps j (omega arith) (last.0 e)
final_behind (s ∷ steps) (suc i) (suc j) last h k e = final_behind steps i j last.1 (omega arith) (omega arith) e

final_is_there : (steps : List Step) (n : ℕ) → is_final (get_or steps n no_step).role ≡ true → n < length steps
final_is_there [] n e = absurd (false≢true e)
final_is_there (s ∷ steps) zero e = omega arith
final_is_there (s ∷ steps) (suc n) e = let ih : n < length steps = final_is_there steps n e in omega arith

role_is : (steps : List Step) (n : ℕ) → get_or (map (λ s. s.role) steps) n roles.Plain ≡ (get_or steps n no_step).role
role_is [] n = refl
role_is (s ∷ steps) zero = refl
role_is (s ∷ steps) (suc n) = role_is steps n

final_needs_all : (role earlier : Role) → is_final role ≡ true → role_needs role earlier ≡ true
final_needs_all role earlier e = grind (arith, false≢true)

-- a final command needs each one before it
needs_before : (steps : List Step) (m n : ℕ) → m < n → n < length steps → is_final (get_or steps n no_step).role ≡ true → is_in (needs_at (needs_by step_needs steps) n) m ≡ true
needs_before steps m n h k e =
    let earlier : Step = get_or steps m no_step in
    let later : Step = get_or steps n no_step in
    needs_each step_needs no_step steps m n h k
    (in_second (must_follow (record_of earlier.files) (record_of later.files)) (role_needs later.role earlier.role) (final_needs_all later.role earlier.role e))

ordered_with_all : (steps : List Step) (n m : ℕ) → FinalLast steps → n < length steps → m < length steps → is_final (get_or steps n no_step).role ≡ true → (m == n || are_ordered (needs_by step_needs steps) m n) ≡ true
ordered_with_all steps n m last h k e = grind (arith, in_second, needs_before, ltb-true, false≢true, eq-eqb, lt-ltb, final_behind)

pub final_has_one_place : FinalHasOnePlace
final_has_one_place plan n e = grind (arith, role_is, length-needs_behind, all_from, in_range, ordered_with_all, final_last, final_is_there)

-- Plans.

others_stay : (plan : Plan) (effects : ℕ → Effect) → OthersStayWithin plan effects → AllStayWithin (plan_records plan) (plan_needs plan) effects
others_stay plan effects stay n h many = grind (arith, fails, false≢true, final_has_one_place)

pub plan_orders_agree : PlanOrdersAgree
plan_orders_agree plan order effects contents is stay = grind (arith, orders_agree, steps_hold, others_stay)

pub plan_runs_agree : PlanRunsAgree
plan_runs_agree plan ran effects contents is stay = grind (arith, runs_agree, steps_hold, others_stay)

pub plan_order_is_one : PlanOrderIsOne
plan_order_is_one plan = grind (arith, IsPermutation-refl, own_order_ready)

recorded_there : (steps : List Step) (n : ℕ) → n < length steps → list_all (λ s. is_final s.role || is_recorded s) steps ≡ true → is_final (get_or (map (λ s. s.role) steps) n roles.Plain) ≡ false → get_or (map is_recorded steps) n false ≡ true
recorded_there [] n h keeps other = absurd (omega arith)
recorded_there (s ∷ steps) zero h keeps other = grind (arith, and_parts, in_either)
recorded_there (s ∷ steps) (suc n) h keeps other =
    recorded_there steps n (omega arith) (and_parts (is_final s.role || is_recorded s) (list_all (λ s. is_final s.role || is_recorded s) steps) keeps).1 other

pub records_suffice : RecordsSuffice
records_suffice plan effects keeps stay n h other =
    let size : length (plan_records plan) ≡ length (plan_steps plan) = length-records_of (plan_steps plan) in
    stay n (recorded_there (plan_steps plan) n (omega arith) keeps other)
