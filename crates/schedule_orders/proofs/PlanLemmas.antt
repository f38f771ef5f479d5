-- The products of plans.
use Rattle.std.proofs.Common.{◌≡◌, ℕ, zero, suc, ◌+◌, ◌-◌, ◌<◌, ◌≤◌, List, [], ◌∷◌, ◌++◌, Bool, true, false, cond, ◌||◌, ◌==◌, min, map, length, get_or, refl, sym, ap, subst, ◌∙◌, arith, length-append}
use Rattle.std.specs.Prelude.{nat_lt, not}
use Rattle.std.specs.List.{list_all}
use Rattle.std.proofs.Math.Seq.{get_or-append_right}
use Rattle.std.proofs.lemmas.Bool.{false≢true, and_parts, eqb-true, eq-eqb, lt-ltb, ltb-true, not-true}
use Rattle.std.proofs.lemmas.List.{get_or_append_left, length-map}
use Rattle.compilers.specs.declared.plans.plan.Plan.{Plan}
use Rattle.command_files.specs.declared.steps.Role.TheVariants as roles
use Rattle.command_files.specs.declared.steps.Step.{Step}
use Rattle.command_files.specs.Files.{Files, must_follow}
use Rattle.command_files.specs.Order.{needs_at, is_in, own_order, are_ordered, has_one_place, files_at, Hold}
use Rattle.command_files.specs.Overlap.{ArePartsOf, part_follows, part_records}
use Rattle.command_files.specs.PlanNeeds.{record_of, plan_steps, plan_records, plan_needs, step_needs, role_needs}
use Rattle.command_files.specs.PlanOrders.{is_final, role_at}
use Rattle.command_files.proofs.OrderLemmas.{in_either, in_first, in_second, fails, in_range, all_pass}
use Rattle.command_files.proofs.NeedLemmas.{length-needs_behind, needs_each, all_from}
use Rattle.command_files.proofs.PlanOrderLemmas.{final_has_one_place}
use Rattle.schedules.specs.Graphs.{moved, joined_from}
use Rattle.schedule_orders.specs.Closed.{closed}
use Rattle.schedule_orders.specs.Products.{needs_of_parts}
use Rattle.schedule_orders.specs.Plans.{all_records, all_needs, are_apart, all_apart}
use Rattle.schedule_orders.proofs.ClosedLemmas.{listed_needed, length-closed}
use Rattle.schedule_orders.proofs.ListLemmas.{range_has}
use Rattle.schedule_orders.proofs.ProductLemmas.{length-own_parts}

-- One plan.

-- a step that touches nothing
abbrev no_step : Step
no_step = record { files = record { reads = []; writes = []; may_write = []; complete = true }; role = roles.Plain; preprocesses = false }

abbrev records_of : List Step → List Files
records_of steps = map record_of (map (λ s. s.files) steps)

length-records_of : (steps : List Step) → length (records_of steps) ≡ length steps
length-records_of steps = length-map (map (λ s. s.files) steps) record_of ∙ length-map steps (λ s. s.files)

record_at : (steps : List Step) (n : ℕ) → files_at (records_of steps) n ≡ record_of (get_or steps n no_step).files
record_at [] n = refl
record_at (s ∷ steps) zero = refl
record_at (s ∷ steps) (suc n) = record_at steps n

pub plan_counts : (plan : Plan) → length (plan_needs plan) ≡ length (plan_records plan)
plan_counts plan = length-needs_behind step_needs [] (plan_steps plan) ∙ sym (length-records_of (plan_steps plan))

-- by direct needs
plan_needed : (plan : Plan) (i j : ℕ) → i < j → j < length (plan_records plan) → must_follow (files_at (plan_records plan) i) (files_at (plan_records plan) j) ≡ true → is_in (needs_at (plan_needs plan) j) i ≡ true
plan_needed plan i j h k e =
    let steps : List Step = plan_steps plan in
    let size : length (plan_records plan) ≡ length steps = length-records_of steps in
    let earlier : Step = get_or steps i no_step in
    let later : Step = get_or steps j no_step in
    needs_each step_needs no_step steps i j h (omega (arith, k, size))
    (in_first (must_follow (record_of earlier.files) (record_of later.files)) (role_needs later.role earlier.role)
    (sym (ap (λ f. must_follow f (record_of later.files)) (record_at steps i)) ∙ sym (ap (λ g. must_follow (files_at (plan_records plan) i) g) (record_at steps j)) ∙ e))

pub plan_holds : (plan : Plan) → Hold must_follow (plan_records plan) (closed (plan_needs plan))
plan_holds plan = record {
  each = length-closed (plan_needs plan) ∙ plan_counts plan;
  needed = λ i j h k e. listed_needed (plan_needs plan) j i (plan_needed plan i j h k e);
}

-- Parts of a command that is ordered with another one, one way or the other.

follows_earlier : (needs : List (List ℕ)) (x y : ℕ) → x ≤ y → (x == y || are_ordered needs x y) ≡ true → part_follows (closed needs) x y ≡ true
follows_earlier needs x y h e = by (x == y) refl e
  where
    by : (b : Bool) → (x == y) ≡ b → (b || are_ordered needs x y) ≡ true → (x == y || is_in (needs_at (closed needs) y) x) ≡ true
    by true t k = in_first (x == y) (is_in (needs_at (closed needs) y) x) t
    by false t k =
        let differ : x ≡ y → ⊥ = λ s. false≢true (sym t ∙ eq-eqb x y s) in
        let below : nat_lt x y ≡ true = lt-ltb x y (omega (arith, differ, h)) in
        in_second (x == y) (is_in (needs_at (closed needs) y) x)
        (listed_needed needs y x (sym (ap (λ b. cond b (is_in (needs_at needs y) x) (is_in (needs_at needs x) y)) below) ∙ k))

follows_later : (needs : List (List ℕ)) (x y : ℕ) → x ≤ y → (y == x || are_ordered needs y x) ≡ true → part_follows (closed needs) x y ≡ true
follows_later needs x y h e =
    let above : nat_lt y x ≡ false = fails (nat_lt y x) (λ t. let less : y < x = ltb-true y x t in omega (arith, less, h)) in
    in_either (y == x) (are_ordered needs y x)
    (λ k. in_first (x == y) (is_in (needs_at (closed needs) y) x) (eq-eqb x y (sym (eqb-true y x k))))
    (λ k. in_second (x == y) (is_in (needs_at (closed needs) y) x)
    (listed_needed needs y x (sym (ap (λ b. cond b (is_in (needs_at needs x) y) (is_in (needs_at needs y) x)) above) ∙ k))) e

-- a part of a command that has one place has one place
module _ (needs : List (List ℕ)) (parts : List ℕ) (i : ℕ) (rise : (a b : ℕ) → a < b → b < length parts → get_or parts a 0 ≤ get_or parts b 0)
    (within : (a : ℕ) → a < length parts → get_or parts a 0 < length needs) (there : i < length parts)
    (one : has_one_place needs (get_or parts i 0) ≡ true) where
  ordered : (m : ℕ) → m < length parts → (get_or parts m 0 == get_or parts i 0 || are_ordered needs (get_or parts m 0) (get_or parts i 0)) ≡ true
  ordered m k =
      let command : get_or parts m 0 < length needs = within m k in
      all_pass (λ n. n == get_or parts i 0 || are_ordered needs n (get_or parts i 0)) (own_order needs) (get_or parts m 0) one
      (range_has 0 (length needs) (get_or parts m 0) (omega arith) (omega (arith, command)))

  ordered_part : (m : ℕ) → m < length parts → (m == i || are_ordered (needs_of_parts needs parts) m i) ≡ true
  ordered_part m k = by (m == i) refl (nat_lt m i) refl
    where
      by : (b : Bool) → (m == i) ≡ b → (c : Bool) → nat_lt m i ≡ c → (m == i || are_ordered (needs_of_parts needs parts) m i) ≡ true
      by true t c s = in_first (m == i) (are_ordered (needs_of_parts needs parts) m i) t
      by false t true s =
          let before : m < i = ltb-true m i s in
          let need : is_in (needs_at (needs_of_parts needs parts) i) m ≡ true =
          needs_each (part_follows (closed needs)) 0 parts m i before there (follows_earlier needs (get_or parts m 0) (get_or parts i 0) (rise m i before there) (ordered m k)) in
          in_second (m == i) (are_ordered (needs_of_parts needs parts) m i)
          (ap (λ b. cond b (is_in (needs_at (needs_of_parts needs parts) i) m) (is_in (needs_at (needs_of_parts needs parts) m) i)) s ∙ need)
      by false t false s =
          let differ : m ≡ i → ⊥ = λ f. false≢true (sym t ∙ eq-eqb m i f) in
          let least : m < i → ⊥ = λ f. false≢true (sym s ∙ lt-ltb m i f) in
          let behind : i < m = omega (arith, differ, least) in
          let need : is_in (needs_at (needs_of_parts needs parts) m) i ≡ true =
          needs_each (part_follows (closed needs)) 0 parts i m behind k (follows_later needs (get_or parts i 0) (get_or parts m 0) (rise i m behind k) (ordered m k)) in
          in_second (m == i) (are_ordered (needs_of_parts needs parts) m i)
          (ap (λ b. cond b (is_in (needs_at (needs_of_parts needs parts) i) m) (is_in (needs_at (needs_of_parts needs parts) m) i)) s ∙ need)

  one_place : has_one_place (needs_of_parts needs parts) i ≡ true
  one_place = all_from (λ m. m == i || are_ordered (needs_of_parts needs parts) m i) (own_order (needs_of_parts needs parts)) (λ m e. ordered_part m (bound m e))
    where
      bound : (m : ℕ) → is_in (own_order (needs_of_parts needs parts)) m ≡ true → m < length parts
      bound m e = let place : (0 ≤ m) × (m < 0 + length parts) = in_range 0 (length parts) m (subst (λ own. is_in own m ≡ true) (length-own_parts needs parts) e) in omega (arith, place.1)

length-part_records : (records : List Files) (parts : List ℕ) → length (part_records records parts) ≡ length parts
length-part_records records [] = refl
length-part_records records (p ∷ parts) = ap suc (length-part_records records parts)

pub is_part : (records : List Files) (parts : List ℕ) (i : ℕ) → i < length (part_records records parts) → i < length parts
is_part records parts i h = omega (arith, h, length-part_records records parts)

-- a part that has many places isn't final
pub not_final : (plan : Plan) (parts : List ℕ) (i : ℕ) → ArePartsOf (plan_records plan) parts → i < length parts → has_one_place (needs_of_parts (plan_needs plan) parts) i ≡ false → is_final (role_at plan (get_or parts i 0)) ≡ false
not_final plan parts i are there many =
    let within : (a : ℕ) → a < length parts → get_or parts a 0 < length (plan_needs plan) = λ a k. let command : get_or parts a 0 < length (plan_records plan) = are.of_commands a k in omega (arith, command, plan_counts plan) in
    fails (is_final (role_at plan (get_or parts i 0)))
    (λ f. false≢true (sym many ∙ one_place (plan_needs plan) parts i are.rise within there (final_has_one_place plan (get_or parts i 0) f)))

-- Several plans.

in_moved : (offset : ℕ) (ns : List ℕ) (i : ℕ) → offset + i ≤ 18446744073709551615 → is_in ns i ≡ true → is_in (map (moved offset) ns) (offset + i) ≡ true
in_moved offset [] i h e = absurd (false≢true e)
in_moved offset (n ∷ ns) i h e =
    in_either (n == i) (is_in ns i)
    (λ k. in_first (moved offset n == offset + i) (is_in (map (moved offset) ns) (offset + i)) (eq-eqb (moved offset n) (offset + i) (same (eqb-true n i k))))
    (λ k. in_second (moved offset n == offset + i) (is_in (map (moved offset) ns) (offset + i)) (in_moved offset ns i h k)) e
  where
    same : n ≡ i → min (n + offset) 18446744073709551615 ≡ offset + i
    same s = omega (arith, s, h)

moved_at : (offset : ℕ) (rows : List (List ℕ)) (j : ℕ) → get_or (map (map (moved offset)) rows) j [] ≡ map (moved offset) (get_or rows j [])
moved_at offset [] j = refl
moved_at offset (r ∷ rows) zero = refl
moved_at offset (r ∷ rows) (suc j) = moved_at offset rows j

length-moved : (offset : ℕ) (rows : List (List ℕ)) → length (map (map (moved offset)) rows) ≡ length rows
length-moved offset rows = length-map rows (map (moved offset))

apart_from : (f : Files) (others : List Files) (j : ℕ) → list_all (λ g. not (must_follow f g)) others ≡ true → j < length others → must_follow f (files_at others j) ≡ false
apart_from f [] j e k = absurd (omega (arith, k))
apart_from f (g ∷ others) zero e k = not-true (must_follow f g) (and_parts (not (must_follow f g)) (list_all (λ g. not (must_follow f g)) others) e).0
apart_from f (g ∷ others) (suc j) e k = apart_from f others j (and_parts (not (must_follow f g)) (list_all (λ g. not (must_follow f g)) others) e).1 (omega (arith, k))

apart_at : (some others : List Files) (i j : ℕ) → are_apart some others ≡ true → i < length some → j < length others → must_follow (files_at some i) (files_at others j) ≡ false
apart_at [] others i j e h k = absurd (omega (arith, h))
apart_at (f ∷ some) others zero j e h k = apart_from f others j (and_parts (list_all (λ g. not (must_follow f g)) others) (are_apart some others) e).0 k
apart_at (f ∷ some) others (suc i) j e h k = apart_at some others i j (and_parts (list_all (λ g. not (must_follow f g)) others) (are_apart some others) e).1 (omega (arith, h)) k

abbrev no_files : Files
no_files = record { reads = []; writes = [] }

-- of the first plan
both_first : (offset : ℕ) (plan : Plan) (rest : List Files) (more : List (List ℕ)) (i j : ℕ) → offset + i ≤ 18446744073709551615 → i < j → j < length (plan_records plan)
    → must_follow (files_at (plan_records plan ++ rest) i) (files_at (plan_records plan ++ rest) j) ≡ true → is_in (needs_at (map (map (moved offset)) (plan_needs plan) ++ more) j) (offset + i) ≡ true
both_first offset plan rest more i j fits h k e =
    let records : List Files = plan_records plan in
    let first : files_at (records ++ rest) i ≡ files_at records i = get_or_append_left records rest no_files i (omega (arith, h, k)) in
    let second : files_at (records ++ rest) j ≡ files_at records j = get_or_append_left records rest no_files j k in
    let follow : must_follow (files_at records i) (files_at records j) ≡ true = sym (ap (λ f. must_follow f (files_at records j)) first) ∙ sym (ap (λ g. must_follow (files_at (records ++ rest) i) g) second) ∙ e in
    let rows : length (map (map (moved offset)) (plan_needs plan)) ≡ length (plan_needs plan) = length-moved offset (plan_needs plan) in
    let row : needs_at (map (map (moved offset)) (plan_needs plan) ++ more) j ≡ map (moved offset) (needs_at (plan_needs plan) j) =
    get_or_append_left (map (map (moved offset)) (plan_needs plan)) more [] j (omega (arith, rows, plan_counts plan, k)) ∙ moved_at offset (plan_needs plan) j in
    ap (λ ns. is_in ns (offset + i)) row ∙ in_moved offset (needs_at (plan_needs plan) j) i fits (plan_needed plan i j h k follow)

-- of the first plan and of another
across : (some others : List Files) (i j : ℕ) → are_apart some others ≡ true → i < length some → length some ≤ j → j < length (some ++ others) → must_follow (files_at (some ++ others) i) (files_at (some ++ others) j) ≡ false
across some others i j apart h past k =
    let first : files_at (some ++ others) i ≡ files_at some i = get_or_append_left some others no_files i h in
    let second : files_at (some ++ others) j ≡ files_at others (j - length some) = get_or-append_right some others j no_files past in
    ap (λ f. must_follow f (files_at (some ++ others) j)) first ∙ ap (λ g. must_follow (files_at some i) g) second
    ∙ apart_at some others i (j - length some) apart h (omega (arith, k, past, length-append some others))

-- what commands of plans need of each other, their numbers behind others
joined_needed : (offset : ℕ) (plans : List Plan) (i j : ℕ) → all_apart plans ≡ true → offset + length (all_records plans) ≤ 18446744073709551615 → i < j → j < length (all_records plans)
    → must_follow (files_at (all_records plans) i) (files_at (all_records plans) j) ≡ true → is_in (needs_at (joined_from offset (map plan_needs plans)) j) (offset + i) ≡ true
joined_needed offset [] i j apart fits h k e = absurd (omega (arith, k))
joined_needed offset (plan ∷ plans) i j apart fits h k e =
    let parts : (are_apart (plan_records plan) (all_records plans) ≡ true) × (all_apart plans ≡ true) = and_parts (are_apart (plan_records plan) (all_records plans)) (all_apart plans) apart in
    let sizes : length (all_records (plan ∷ plans)) ≡ length (plan_records plan) + length (all_records plans) = length-append (plan_records plan) (all_records plans) in
    by (nat_lt j (length (plan_records plan))) refl (nat_lt i (length (plan_records plan))) refl sizes parts.0
    (joined_needed (offset + length (plan_needs plan)) plans (i - length (plan_records plan)) (j - length (plan_records plan)) parts.1 (omega (arith, fits, sizes, plan_counts plan)))
  where
    by : (b : Bool) → nat_lt j (length (plan_records plan)) ≡ b → (c : Bool) → nat_lt i (length (plan_records plan)) ≡ c
        → length (all_records (plan ∷ plans)) ≡ length (plan_records plan) + length (all_records plans)
        → are_apart (plan_records plan) (all_records plans) ≡ true
        → (i - length (plan_records plan) < j - length (plan_records plan) → j - length (plan_records plan) < length (all_records plans)
        → must_follow (files_at (all_records plans) (i - length (plan_records plan))) (files_at (all_records plans) (j - length (plan_records plan))) ≡ true
        → is_in (needs_at (joined_from (offset + length (plan_needs plan)) (map plan_needs plans)) (j - length (plan_records plan))) ((offset + length (plan_needs plan)) + (i - length (plan_records plan))) ≡ true)
        → is_in (needs_at (map (map (moved offset)) (plan_needs plan) ++ joined_from (offset + length (plan_needs plan)) (map plan_needs plans)) j) (offset + i) ≡ true
    by true t c s sizes away ih = both_first offset plan (all_records plans) (joined_from (offset + length (plan_needs plan)) (map plan_needs plans)) i j (omega (arith, fits, h, k)) h (ltb-true j (length (plan_records plan)) t) e
    by false t true s sizes away ih =
        let least : j < length (plan_records plan) → ⊥ = λ f. false≢true (sym t ∙ lt-ltb j (length (plan_records plan)) f) in
        absurd (false≢true (sym (across (plan_records plan) (all_records plans) i j away (ltb-true i (length (plan_records plan)) s) (omega (arith, least)) k) ∙ e))
    by false t false s sizes away ih =
        let least : i < length (plan_records plan) → ⊥ = λ f. false≢true (sym s ∙ lt-ltb i (length (plan_records plan)) f) in
        let past : length (plan_records plan) ≤ i = omega (arith, least) in
        let first : files_at (all_records (plan ∷ plans)) i ≡ files_at (all_records plans) (i - length (plan_records plan)) = get_or-append_right (plan_records plan) (all_records plans) i no_files past in
        let second : files_at (all_records (plan ∷ plans)) j ≡ files_at (all_records plans) (j - length (plan_records plan)) = get_or-append_right (plan_records plan) (all_records plans) j no_files (omega (arith, past, h)) in
        let follow : must_follow (files_at (all_records plans) (i - length (plan_records plan))) (files_at (all_records plans) (j - length (plan_records plan))) ≡ true =
        sym (ap (λ f. must_follow f (files_at (all_records plans) (j - length (plan_records plan)))) first) ∙ sym (ap (λ g. must_follow (files_at (all_records (plan ∷ plans)) i) g) second) ∙ e in
        let rows : length (map (map (moved offset)) (plan_needs plan)) ≡ length (plan_needs plan) = length-moved offset (plan_needs plan) in
        let same_rows : length (map (map (moved offset)) (plan_needs plan)) ≡ length (plan_records plan) = rows ∙ plan_counts plan in
        let row : needs_at (map (map (moved offset)) (plan_needs plan) ++ joined_from (offset + length (plan_needs plan)) (map plan_needs plans)) j ≡ needs_at (joined_from (offset + length (plan_needs plan)) (map plan_needs plans)) (j - length (plan_records plan)) =
        get_or-append_right (map (map (moved offset)) (plan_needs plan)) (joined_from (offset + length (plan_needs plan)) (map plan_needs plans)) j [] (omega (arith, same_rows, past, h))
        ∙ ap (λ n. needs_at (joined_from (offset + length (plan_needs plan)) (map plan_needs plans)) (j - n)) same_rows in
        let number : (offset + length (plan_needs plan)) + (i - length (plan_records plan)) ≡ offset + i = omega (arith, plan_counts plan, past) in
        ap (λ ns. is_in ns (offset + i)) row
        ∙ subst (λ n. is_in (needs_at (joined_from (offset + length (plan_needs plan)) (map plan_needs plans)) (j - length (plan_records plan))) n ≡ true) number
        (ih (omega (arith, past, h)) (omega (arith, sizes, past, h, k)) follow)

joined_counts : (offset : ℕ) (plans : List Plan) → length (joined_from offset (map plan_needs plans)) ≡ length (all_records plans)
joined_counts offset [] = refl
joined_counts offset (plan ∷ plans) =
    let rest : length (joined_from (offset + length (plan_needs plan)) (map plan_needs plans)) ≡ length (all_records plans) = joined_counts (offset + length (plan_needs plan)) plans in
    let rows : length (map (map (moved offset)) (plan_needs plan)) ≡ length (plan_needs plan) = length-moved offset (plan_needs plan) in
    let one = length-append (map (map (moved offset)) (plan_needs plan)) (joined_from (offset + length (plan_needs plan)) (map plan_needs plans)) in
    let other = length-append (plan_records plan) (all_records plans) in
    omega (arith, rest, rows, plan_counts plan, one, other)

pub plans_hold : (plans : List Plan) → all_apart plans ≡ true → length (all_records plans) ≤ 18446744073709551615 → Hold must_follow (all_records plans) (closed (all_needs plans))
plans_hold plans apart fits = record {
  each = length-closed (all_needs plans) ∙ joined_counts 0 plans;
  needed = λ i j h k e.
      let same : 0 + i ≡ i = omega arith in
      listed_needed (all_needs plans) j i (subst (λ n. is_in (needs_at (all_needs plans) j) n ≡ true) same (joined_needed 0 plans i j apart (omega (arith, fits)) h k e));
}
