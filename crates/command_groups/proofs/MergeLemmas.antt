-- The merged list is in order, and nothing is lost in it.
use Rattle.std.proofs.Common.{◌≡◌, ℕ, ◌+◌, ◌<◌, ◌≤◌, List, [], ◌∷◌, ◌++◌, Bool, true, false, cond, ◌||◌, ◌&&◌, nat_lt, map, filter, refl, sym, ap, ◌∙◌, ◌⊎◌, inl, inr, arith, Ordering, is_lt, IsPermutation, nat_le, ◌==◌, if◌then◌else◌, sum_by}
use Rattle.std.specs.List.{list_all, AllByRecursion}
use Rattle.std.specs.Ordering.{ordering_then, nat_cmp}
use Rattle.std.proofs.lemmas.Bool.{false≢true, and_parts, ltb-true, ltb-false, leb-true, leb-false, eqb-true, lt-ltb, le-leb, eq-eqb, and_from, or_left, or_right, or_parts}
use Rattle.std.proofs.lemmas.List.Elements.{recursion_from_All, All-from_recursion}
use Rattle.std.proofs.lemmas.List.Sums.{sum_by-cons, sum_by-append}
use Rattle.std.proofs.lemmas.List.Sorted.{IsPermutation-refl, IsPermutation-sym, IsPermutation-trans, IsPermutation-cons, IsPermutation-middle, All-permutation, sum_by-IsPermutation}
use Rattle.std.proofs.Math.Bool.{and-false}
use Rattle.compilers.specs.CommandLines.{CommandLine, line_of}
use Rattle.command_groups.specs.Merge.{MergedCommand, selected, is_nvcc_stem, is_host_stem, of_run, is_in_order, put_in_order, in_order, merged}
use Rattle.command_groups.specs.MergeLaws.{AllStand, InOrder, MergedAreTheSelected, Rises, is_before, RisesInOrder}
use Rattle.command_groups.proofs.FateLemmas.{one_of, weaker, Among}

-- Tests.

second_fails : (a b : Bool) → a ≡ true → (a && b) ≡ false → b ≡ false
second_fails a b e f = grind (arith, false≢true)

not_equal : (m n : ℕ) → (m ≡ n → ⊥) → (m == n) ≡ false
not_equal m n h = elim (m == n) as (λ b. (m == n) ≡ b → b ≡ false) [ true ↦ λ e. absurd (h (eqb-true m n e)) | false ↦ λ e. refl ] refl

-- Commands by line, and on equal lines by what a test says of their runs.

module _ (test : ℕ → ℕ → Bool) (Holds : ℕ → ℕ → Type 0) (says : (m n : ℕ) → test m n ≡ true → Holds m n) (said : (m n : ℕ) → Holds m n → test m n ≡ true) where
  abbrev ByLine : MergedCommand → MergedCommand → Type 0
  ByLine a b = (a.line < b.line) ⊎ ((a.line ≡ b.line) × Holds a.run b.run)

  told_by_line : (a b : MergedCommand) → (nat_lt a.line b.line || ((a.line == b.line) && test a.run b.run)) ≡ true → ByLine a b
  told_by_line a b e = grind (arith, one_of, ltb-true, and_parts, eqb-true)

  tells_by_line : (a b : MergedCommand) → ByLine a b → (nat_lt a.line b.line || ((a.line == b.line) && test a.run b.run)) ≡ true
  tells_by_line a b h = grind (arith, or_left, lt-ltb, or_right, and_from, eq-eqb)

-- The order is one.

abbrev Before : MergedCommand → MergedCommand → Type 0
Before a b = (a.line < b.line) ⊎ ((a.line ≡ b.line) × (a.run ≤ b.run))

told : (a b : MergedCommand) → is_in_order a b ≡ true → Before a b
told = told_by_line nat_le (λ m n. m ≤ n) leb-true le-leb

tells : (a b : MergedCommand) → Before a b → is_in_order a b ≡ true
tells = tells_by_line nat_le (λ m n. m ≤ n) leb-true le-leb

turned : (a b : MergedCommand) → is_in_order a b ≡ false → is_in_order b a ≡ true
turned a b e = grind (arith, ltb-false, or_parts, tells, ltb-true, leb-false, second_fails, eq-eqb)

-- Putting a command in its place.

all_after : (c d : MergedCommand) (ds : List MergedCommand) → is_in_order c d ≡ true → list_all (is_in_order d) ds ≡ true → list_all (is_in_order c) ds ≡ true
all_after c d [] e h = refl
all_after c d (x ∷ xs) e h = grind (arith, and_from, tells, told, (all_after c d xs e))

put_after : (c d : MergedCommand) (ds : List MergedCommand) → is_in_order c d ≡ true → list_all (is_in_order c) ds ≡ true → list_all (is_in_order c) (put_in_order d ds) ≡ true
put_after c d [] e h = and_from (is_in_order c d) true e refl
put_after c d (x ∷ xs) e h = grind (arith, and_from, (put_after c d xs e))

put_ordered : (c : MergedCommand) (ds : List MergedCommand) → InOrder ds → InOrder (put_in_order c ds)
put_ordered c [] h = (refl, tt)
put_ordered c (d ∷ ds) h = grind (arith, and_from, all_after, put_after, turned, (put_ordered c ds h.1))

ordered : (cs : List MergedCommand) → InOrder (in_order cs)
ordered [] = tt
ordered (c ∷ cs) = put_ordered c (in_order cs) (ordered cs)

put_permutes : (c : MergedCommand) (ds : List MergedCommand) → IsPermutation (c ∷ ds) (put_in_order c ds)
put_permutes c [] = IsPermutation-refl (c ∷ [])
put_permutes c (d ∷ ds) =
    let ih : IsPermutation (c ∷ ds) (put_in_order c ds) = put_permutes c ds in
    elim (is_in_order c d) as (λ r. IsPermutation (c ∷ d ∷ ds) (cond r (c ∷ d ∷ ds) (d ∷ put_in_order c ds))) [
      | true ↦ IsPermutation-refl (c ∷ d ∷ ds)
      | false ↦
          IsPermutation-trans (c ∷ d ∷ ds) (d ∷ c ∷ ds) (d ∷ put_in_order c ds)
          (IsPermutation-sym (d ∷ c ∷ ds) (c ∷ d ∷ ds) (IsPermutation-middle (d ∷ []) c ds))
          (IsPermutation-cons d (c ∷ ds) (put_in_order c ds) ih)
    ]

permuted : (cs : List MergedCommand) → IsPermutation cs (in_order cs)
permuted [] = IsPermutation-refl []
permuted (c ∷ cs) =
    IsPermutation-trans (c ∷ cs) (c ∷ in_order cs) (put_in_order c (in_order cs)) (IsPermutation-cons c cs (in_order cs) (permuted cs)) (put_permutes c (in_order cs))

pub merged_is_in_order : (first second : List CommandLine) → InOrder (merged first second)
merged_is_in_order first second = ordered (map (of_run 1) (selected is_nvcc_stem first) ++ map (of_run 2) (selected is_host_stem second))

pub merged_are_the_selected : MergedAreTheSelected
merged_are_the_selected first second = permuted (map (of_run 1) (selected is_nvcc_stem first) ++ map (of_run 2) (selected is_host_stem second))

-- Members.

own_members : (xs : List MergedCommand) → AllByRecursion (λ x. Among x xs) xs
own_members [] = tt
own_members (x ∷ xs) = (inl refl, weaker (λ y. Among y xs) (λ y. Among y (x ∷ xs)) (λ y h. inr h) xs (own_members xs))

members : (xs ys : List MergedCommand) → IsPermutation xs ys → AllByRecursion (λ y. Among y xs) ys
members xs ys p = recursion_from_All (λ y. Among y xs) ys (All-permutation (λ y. Among y xs) xs ys p (All-from_recursion (λ y. Among y xs) xs (own_members xs)))

of_member : (test : MergedCommand → Bool) (x : MergedCommand) (xs : List MergedCommand) → Among x xs → list_all test xs ≡ true → test x ≡ true
of_member test x [] a h = absurd a
of_member test x (y ∷ ys) (inl e) h = ap test e ∙ (and_parts (test y) (list_all test ys) h).0
of_member test x (y ∷ ys) (inr a) h = of_member test x ys a (and_parts (test y) (list_all test ys) h).1

-- Two lists that rise strictly and have the same members are one.

abbrev StrictlyBefore : MergedCommand → MergedCommand → Type 0
StrictlyBefore a b = (a.line < b.line) ⊎ ((a.line ≡ b.line) × (a.run < b.run))

strictly_told : (a b : MergedCommand) → is_before a b ≡ true → StrictlyBefore a b
strictly_told = told_by_line nat_lt (λ m n. m < n) ltb-true lt-ltb

not_both : (a b : MergedCommand) → StrictlyBefore a b → StrictlyBefore b a → ⊥
not_both a b h k = grind arith

-- what stands behind a command is among what is left without it
left_behind : (p : MergedCommand) (ps zs : List MergedCommand) → list_all (is_before p) zs ≡ true → AllByRecursion (λ z. Among z (p ∷ ps)) zs → AllByRecursion (λ z. Among z ps) zs
left_behind p ps [] h k = tt
left_behind p ps (z ∷ zs) h k = grind (arith, (left_behind p ps zs))

same_list : (ps ms : List MergedCommand) → RisesInOrder ps → RisesInOrder ms → AllByRecursion (λ z. Among z ps) ms → AllByRecursion (λ z. Among z ms) ps → ms ≡ ps
same_list [] [] r s h k = refl
same_list [] (m ∷ ms) r s h k = absurd h.0
same_list (p ∷ ps) [] r s h k = absurd k.0
same_list (p ∷ ps) (m ∷ ms) r s h k =
    let e : m ≡ p = heads h.0 k.0 in
    let rest = same_list ps ms r.1 s.1
    (left_behind p ps ms (ap (λ q. list_all (is_before q) ms) (sym e) ∙ s.0) h.1)
    (left_behind m ms ps (ap (λ q. list_all (is_before q) ps) e ∙ r.0) k.1) in
    λ i. e i ∷ rest i
  where
    heads : Among m (p ∷ ps) → Among p (m ∷ ms) → m ≡ p
    heads (inl e) b = e
    heads (inr a) (inl e) = sym e
    heads (inr a) (inr b) =
        absurd (not_both p m (strictly_told p m (of_member (is_before p) m ps a r.0)) (strictly_told m p (of_member (is_before m) p ms b s.0)))

-- Commands in order rise strictly where no two share line and run.

abbrev ties : MergedCommand → MergedCommand → Bool
ties a b = (a.line == b.line) && (a.run == b.run)

abbrev tie : MergedCommand → MergedCommand → ℕ
tie a b = if ties a b then 1 else 0

abbrev tally : MergedCommand → List MergedCommand → ℕ
tally a xs = sum_by (tie a) xs

abbrev NoTies : List MergedCommand → Type 0
NoTies xs = (a : MergedCommand) → tally a xs ≤ 1

tallied : (a x : MergedCommand) (xs : List MergedCommand) → tally a (x ∷ xs) ≡ tie a x + tally a xs
tallied a x xs = sum_by-cons (tie a) x xs

ties_itself : (a : MergedCommand) → tie a a ≡ 1
ties_itself a = ap (λ b. if b then 1 else 0) (and_from (a.line == a.line) (a.run == a.run) (eq-eqb a.line a.line refl) (eq-eqb a.run a.run refl))

no_ties_later : (x : MergedCommand) (xs : List MergedCommand) → NoTies (x ∷ xs) → NoTies xs
no_ties_later x xs h a = omega (arith, tallied a x xs, h a)

all_strictly : (a : MergedCommand) (xs : List MergedCommand) → list_all (is_in_order a) xs ≡ true → tally a xs ≡ 0 → list_all (is_before a) xs ≡ true
all_strictly a [] h t = refl
all_strictly a (x ∷ xs) h t = grind (arith, and_from, tallied, (all_strictly a xs))

strict_order : (xs : List MergedCommand) → InOrder xs → NoTies xs → RisesInOrder xs
strict_order [] h t = tt
strict_order (x ∷ xs) h t = grind (arith, all_strictly, tallied, ties_itself, no_ties_later, (strict_order xs h.1 (no_ties_later x xs t)))

-- The commands of two runs share no line and run.

none_above : (r n : ℕ) (a : MergedCommand) (cs : List CommandLine) → a.line ≤ n → list_all (nat_lt n) (map line_of cs) ≡ true → tally a (map (of_run r) cs) ≡ 0
none_above r n a [] l h = refl
none_above r n a (c ∷ cs) l h = grind (arith, ltb-true, not_equal, tallied, (none_above r n a cs l))

rising_tally : (r : ℕ) (a : MergedCommand) (cs : List CommandLine) → Rises (map line_of cs) → tally a (map (of_run r) cs) ≤ 1
rising_tally r a [] h = omega arith
rising_tally r a (c ∷ cs) h = grind (arith, eqb-true, and_parts, tallied, none_above, (rising_tally r a cs h.1))

other_run : (r : ℕ) (a : MergedCommand) (cs : List CommandLine) → (a.run == r) ≡ false → tally a (map (of_run r) cs) ≡ 0
other_run r a [] e = refl
other_run r a (c ∷ cs) e = grind (arith, tallied, and-false, (other_run r a cs e))

-- what is filtered stands as before
module _ {X Y : Type 0} (f : X → Y) (test : X → Bool) where
  all_left : (pass : Y → Bool) (xs : List X) → list_all pass (map f xs) ≡ true → list_all pass (map f (filter test xs)) ≡ true
  all_left pass [] h = refl
  all_left pass (x ∷ xs) h = grind (arith, and_from, (all_left pass xs))

  pub stand_left : (stands : Y → Y → Bool) (xs : List X) → AllStand stands (map f xs) → AllStand stands (map f (filter test xs))
  stand_left stands [] h = tt
  stand_left stands (x ∷ xs) h = grind (arith, all_left, (stand_left stands xs h.1))

two_runs : (cs ds : List CommandLine) → Rises (map line_of cs) → Rises (map line_of ds) → NoTies (map (of_run 1) cs ++ map (of_run 2) ds)
two_runs cs ds h k a = grind (arith, eqb-true, other_run, not_equal, sum_by-append, rising_tally)

tallies_stay : (xs ys : List MergedCommand) → IsPermutation xs ys → NoTies xs → NoTies ys
tallies_stay xs ys p h a = omega (arith, sum_by-IsPermutation (tie a) xs ys p, h a)

-- Commands of two runs that were put in order, each once, are the merged ones.
pub merged_once : (first second : List CommandLine) (ms : List MergedCommand) → Rises (map line_of first) → Rises (map line_of second) →
    IsPermutation (map (of_run 1) (selected is_nvcc_stem first) ++ map (of_run 2) (selected is_host_stem second)) ms → InOrder ms → (ms ≡ merged first second) × RisesInOrder ms
merged_once first second ms h k p o =
    let xs = map (of_run 1) (selected is_nvcc_stem first) ++ map (of_run 2) (selected is_host_stem second) in
    let apart : NoTies xs = two_runs (selected is_nvcc_stem first) (selected is_host_stem second) (stand_left line_of _ nat_lt first h) (stand_left line_of _ nat_lt second k) in
    let q : IsPermutation xs (in_order xs) = permuted xs in
    let rise : RisesInOrder ms = strict_order ms o (tallies_stay xs ms p apart) in
    let rises : RisesInOrder (in_order xs) = strict_order (in_order xs) (ordered xs) (tallies_stay xs (in_order xs) q apart) in (
      same_list (in_order xs) ms rises rise
          (members (in_order xs) ms (IsPermutation-trans (in_order xs) xs ms (IsPermutation-sym xs (in_order xs) q) p))
          (members ms (in_order xs) (IsPermutation-trans ms xs (in_order xs) (IsPermutation-sym xs ms p) q)),
      rise,
    )

-- Neighbours in order are enough.
abbrev pub Adjacent : List MergedCommand → Type 0
Adjacent [] = Unit {0}
Adjacent (c ∷ []) = Unit {0}
Adjacent (c ∷ d ∷ ds) = (is_in_order c d ≡ true) × Adjacent (d ∷ ds)

pub ordered_by_neighbours : (cs : List MergedCommand) → Adjacent cs → InOrder cs
ordered_by_neighbours [] h = tt
ordered_by_neighbours (c ∷ []) h = (refl, tt)
ordered_by_neighbours (c ∷ d ∷ ds) h = grind (arith, and_from, all_after, (ordered_by_neighbours (d ∷ ds) h.1))

-- what sorting says of two neighbours
pub not_greater : (a b : MergedCommand) (o : Ordering) → is_lt (ordering_then (nat_cmp b.line a.line) (ordering_then (nat_cmp b.run a.run) o)) ≡ false → is_in_order a b ≡ true
not_greater a b o h = grind (arith, turned, lt-ltb, leb-false, second_fails, eq-eqb, or_parts, told)
