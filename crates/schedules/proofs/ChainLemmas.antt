-- Chains of commands.
use Rattle.std.proofs.Common.{◌≡◌, ℕ, zero, suc, ◌+◌, ◌<◌, ◌≤◌, List, [], ◌∷◌, Bool, true, false, cond, ◌||◌, ◌==◌, min, max, None, length, map, get_or, set, replicate, refl, sym, ap, subst, ◌∙◌, arith}
use Rattle.std.specs.Prelude.{nat_lt, slice_index, slice_set}
use Rattle.std.specs.List.{fold, list_any}
use Rattle.std.proofs.lemmas.Bool.{and_parts, eqb-true, eqb-false, ltb-false, ltb-true}
use Rattle.std.proofs.lemmas.List.{length-set, length-map, length-replicate, get_or-map, get_or-set_same, get_or-set_other}
use Rattle.schedules.specs.Chains.{raised, heavier, with_command, chains_from, behind, heaviest_from, WeightsAreHeaviest}
use Rattle.schedules.specs.Entered.{are_below}
use Rattle.schedules.specs.Graphs.{first_late}
use Rattle.schedules.proofs.GraphLemmas.{early, below_more}

pub length-raised : (weight : ℕ) (chains : List ℕ) (m : ℕ) → length (raised weight chains m) ≡ length chains
length-raised weight chains m =
    elim (nat_lt (slice_index chains m) weight) as (λ b. length (cond b (slice_set chains m weight) chains) ≡ length chains) [ true ↦ length-set chains m weight | false ↦ refl ]

length-all_raised : (weight : ℕ) (chains ms : List ℕ) → length (fold (raised weight) chains ms) ≡ length chains
length-all_raised weight chains [] = refl
length-all_raised weight chains (m ∷ ms) = length-all_raised weight (raised weight chains m) ms ∙ length-raised weight chains m

pub length-with_command : (n : ℕ) (needs : List ℕ) (weight : ℕ) (chains : List ℕ) → length (with_command n needs weight chains) ≡ length chains
length-with_command n needs weight chains =
    length-all_raised (heavier weight chains n) (slice_set chains n (heavier weight chains n)) needs ∙ length-set chains n (heavier weight chains n)

-- each command needs only earlier ones
pub needs_below : (k n : ℕ) (needs : List (List ℕ)) → first_late k needs ≡ None → n < length needs → are_below (k + n) (get_or needs n []) ≡ true
needs_below k n [] e h = absurd (omega arith)
needs_below k zero (ns ∷ needs) e h = let same : k ≡ k + zero = omega arith in subst (λ j. are_below j ns ≡ true) same (early k ns needs e).0
needs_below k (suc n) (ns ∷ needs) e h =
    let same : (k + 1) + n ≡ k + suc n = omega arith in
    subst (λ j. are_below j (get_or needs n []) ≡ true) same (needs_below (k + 1) n needs (early k ns needs e).1 (omega arith))

pub needs_of : {V : Type 0} (items : V → List ℕ) (all : List V) (n : ℕ) (v : V) (ms : List ℕ) → first_late 0 (map items all) ≡ None → n < length all → v ≡ get_or all n v → ms ≡ items v → are_below n ms ≡ true
needs_of items all n v ms e h is same =
    let here : 0 + n ≡ n = omega arith in
    let row : get_or (map items all) n [] ≡ items v = get_or-map items all n v [] h ∙ ap items (sym is) in
    subst (λ j. are_below j ms ≡ true) here (ap (are_below (0 + n)) (same ∙ sym row) ∙ needs_below 0 n (map items all) e (omega (arith, h, length-map all items)))

-- The weights are those of the heaviest chains.

-- a row of zeros
abbrev zeros : ℕ → List ℕ
zeros count = replicate count 0

zero_at : (count k : ℕ) → get_or (zeros count) k 0 ≡ 0
zero_at zero k = refl
zero_at (suc count) zero = refl
zero_at (suc count) (suc k) = zero_at count k

-- what is raised is the greater one
raised_same : (weight : ℕ) (chains : List ℕ) (m : ℕ) → m < length chains → get_or (raised weight chains m) m 0 ≡ max weight (get_or chains m 0)
raised_same weight chains m h =
    elim (nat_lt (get_or chains m 0) weight) as (λ b. nat_lt (get_or chains m 0) weight ≡ b → get_or (cond b (set chains m weight) chains) m 0 ≡ max weight (get_or chains m 0)) [
      | true ↦ λ e. get_or-set_same chains m weight 0 h ∙ omega (arith, ltb-true (get_or chains m 0) weight e)
      | false ↦ λ e. omega (arith, ltb-false (get_or chains m 0) weight e)
    ] refl

raised_other : (weight : ℕ) (chains : List ℕ) (m k : ℕ) → (m == k) ≡ false → get_or (raised weight chains m) k 0 ≡ get_or chains k 0
raised_other weight chains m k e =
    elim (nat_lt (get_or chains m 0) weight) as (λ b. get_or (cond b (set chains m weight) chains) k 0 ≡ get_or chains k 0) [
      | true ↦ get_or-set_other chains m k weight 0 (λ f. eqb-false m k e (sym f))
      | false ↦ refl
    ]

abbrev raised_to : Bool → ℕ → ℕ → ℕ
raised_to b weight chain = cond b (max weight chain) chain

raised_once : (weight : ℕ) (chains : List ℕ) (m k : ℕ) → m < length chains → get_or (raised weight chains m) k 0 ≡ raised_to (m == k) weight (get_or chains k 0)
raised_once weight chains m k h =
    elim (m == k) as (λ b. (m == k) ≡ b → get_or (raised weight chains m) k 0 ≡ raised_to b weight (get_or chains k 0)) [
      | true ↦ λ e. subst (λ j. get_or (raised weight chains m) j 0 ≡ max weight (get_or chains j 0)) (eqb-true m k e) (raised_same weight chains m h)
      | false ↦ λ e. raised_other weight chains m k e
    ] refl

raised_twice : (a b : Bool) (weight chain : ℕ) → raised_to b weight (raised_to a weight chain) ≡ raised_to (a || b) weight chain
raised_twice a b weight chain = grind arith

raised_by : (weight : ℕ) (chains ms : List ℕ) (k : ℕ) → are_below (length chains) ms ≡ true → get_or (fold (raised weight) chains ms) k 0 ≡ raised_to (list_any (λ m. m == k) ms) weight (get_or chains k 0)
raised_by weight chains [] k e = refl
raised_by weight chains (m ∷ ms) k e =
    let parts : (nat_lt m (length chains) ≡ true) × (are_below (length chains) ms ≡ true) = and_parts (nat_lt m (length chains)) (are_below (length chains) ms) e in
    let within : are_below (length (raised weight chains m)) ms ≡ true = subst (λ n. are_below n ms ≡ true) (sym (length-raised weight chains m)) parts.1 in
    raised_by weight (raised weight chains m) ms k within
    ∙ ap (raised_to (list_any (λ j. j == k) ms) weight) (raised_once weight chains m k (ltb-true m (length chains) parts.0))
    ∙ raised_twice (m == k) (list_any (λ j. j == k) ms) weight (get_or chains k 0)

-- none of lower numbers is one that isn't lower
none_at : (n k : ℕ) (ms : List ℕ) → are_below n ms ≡ true → n ≤ k → list_any (λ m. m == k) ms ≡ false
none_at n k [] e h = refl
none_at n k (m ∷ ms) e h =
    let parts : (nat_lt m n ≡ true) × (are_below n ms ≡ true) = and_parts (nat_lt m n) (are_below n ms) e in
    elim (m == k) as (λ b. (m == k) ≡ b → (b || list_any (λ j. j == k) ms) ≡ false) [
      | true ↦ λ f. absurd (omega (arith, eqb-true m k f, ltb-true m n parts.0, h))
      | false ↦ λ _. none_at n k ms parts.1 h
    ] refl

length-chains_from : (n : ℕ) (needs : List (List ℕ)) (weights chains : List ℕ) → length (chains_from n needs weights chains) ≡ length chains
length-chains_from n [] weights chains = refl
length-chains_from n (ns ∷ needs) weights chains =
    length-with_command n ns (get_or weights n 0) (chains_from (n + 1) needs weights chains) ∙ length-chains_from (n + 1) needs weights chains

or_nothing : (b : Bool) (weight chain : ℕ) → raised_to b weight chain ≡ max (cond b weight 0) chain
or_nothing b weight chain = grind arith

-- a chain after one command more, of which the needs are lower numbers
one_more : (n k : ℕ) (ns : List ℕ) (weight : ℕ) (chains : List ℕ) → n < length chains → are_below n ns ≡ true
    → get_or (with_command n ns weight chains) k 0 ≡ raised_to (list_any (λ m. m == k) ns) (heavier weight chains n) (get_or (set chains n (heavier weight chains n)) k 0)
one_more n k ns weight chains h e =
    let size : length (set chains n (heavier weight chains n)) ≡ length chains = length-set chains n (heavier weight chains n) in
    raised_by (heavier weight chains n) (set chains n (heavier weight chains n)) ns k (below_more n (length (set chains n (heavier weight chains n))) ns (omega (arith, size, h)) e)

-- the chains behind commands that come before some
before : (n : ℕ) (needs : List (List ℕ)) (weights : List ℕ) (count k : ℕ) → first_late n needs ≡ None → n + length needs ≡ count → k < n
    → get_or (chains_from n needs weights (zeros count)) k 0 ≡ behind k needs (heaviest_from n needs weights)
before n [] weights count k e size h = zero_at count k
before n (ns ∷ needs) weights count k e size h =
    let both : (are_below n ns ≡ true) × (first_late (n + 1) needs ≡ None) = early n ns needs e in
    let rest : List ℕ = chains_from (n + 1) needs weights (zeros count) in
    let long : length rest ≡ count = length-chains_from (n + 1) needs weights (zeros count) ∙ length-replicate count 0 in
    let other : get_or (set rest n (heavier (get_or weights n 0) rest n)) k 0 ≡ get_or rest k 0 = get_or-set_other rest n k (heavier (get_or weights n 0) rest n) 0 (λ f. omega (arith, f, h)) in
    let own : get_or rest n 0 ≡ behind n needs (heaviest_from (n + 1) needs weights) = before (n + 1) needs weights count n both.1 (omega (arith, size)) (omega arith) in
    let theirs : get_or rest k 0 ≡ behind k needs (heaviest_from (n + 1) needs weights) = before (n + 1) needs weights count k both.1 (omega (arith, size)) (omega (arith, h)) in
    one_more n k ns (get_or weights n 0) rest (omega (arith, long, size)) both.0
    ∙ ap (raised_to (list_any (λ m. m == k) ns) (heavier (get_or weights n 0) rest n)) (other ∙ theirs)
    ∙ ap (λ w. raised_to (list_any (λ m. m == k) ns) (min (w + get_or weights n 0) 18446744073709551615) (behind k needs (heaviest_from (n + 1) needs weights))) own
    ∙ or_nothing (list_any (λ m. m == k) ns) (min (behind n needs (heaviest_from (n + 1) needs weights) + get_or weights n 0) 18446744073709551615) (behind k needs (heaviest_from (n + 1) needs weights))

-- the chains that begin with them
from_on : (n : ℕ) (needs : List (List ℕ)) (weights : List ℕ) (count j : ℕ) → first_late n needs ≡ None → n + length needs ≡ count → j < length needs
    → get_or (chains_from n needs weights (zeros count)) (n + j) 0 ≡ get_or (heaviest_from n needs weights) j 0
from_on n [] weights count j e size h = absurd (omega (arith, h))
from_on n (ns ∷ needs) weights count zero e size h =
    let both : (are_below n ns ≡ true) × (first_late (n + 1) needs ≡ None) = early n ns needs e in
    let rest : List ℕ = chains_from (n + 1) needs weights (zeros count) in
    let long : length rest ≡ count = length-chains_from (n + 1) needs weights (zeros count) ∙ length-replicate count 0 in
    let own : get_or rest n 0 ≡ behind n needs (heaviest_from (n + 1) needs weights) = before (n + 1) needs weights count n both.1 (omega (arith, size)) (omega arith) in
    let here : n ≡ n + zero = omega arith in
    subst (λ m. get_or (chains_from n (ns ∷ needs) weights (zeros count)) m 0 ≡ get_or (heaviest_from n (ns ∷ needs) weights) 0 0) here
    (one_more n n ns (get_or weights n 0) rest (omega (arith, long, size)) both.0
    ∙ ap (λ b. raised_to b (heavier (get_or weights n 0) rest n) (get_or (set rest n (heavier (get_or weights n 0) rest n)) n 0)) (none_at n n ns both.0 (omega arith))
    ∙ get_or-set_same rest n (heavier (get_or weights n 0) rest n) 0 (omega (arith, long, size))
    ∙ ap (λ w. min (w + get_or weights n 0) 18446744073709551615) own)
from_on n (ns ∷ needs) weights count (suc j) e size h =
    let both : (are_below n ns ≡ true) × (first_late (n + 1) needs ≡ None) = early n ns needs e in
    let rest : List ℕ = chains_from (n + 1) needs weights (zeros count) in
    let long : length rest ≡ count = length-chains_from (n + 1) needs weights (zeros count) ∙ length-replicate count 0 in
    let next : (n + 1) + j ≡ n + suc j = omega arith in
    let ih : get_or rest ((n + 1) + j) 0 ≡ get_or (heaviest_from (n + 1) needs weights) j 0 = from_on (n + 1) needs weights count j both.1 (omega (arith, size)) (omega (arith, h)) in
    one_more n (n + suc j) ns (get_or weights n 0) rest (omega (arith, long, size)) both.0
    ∙ ap (λ b. raised_to b (heavier (get_or weights n 0) rest n) (get_or (set rest n (heavier (get_or weights n 0) rest n)) (n + suc j) 0)) (none_at n (n + suc j) ns both.0 (omega arith))
    ∙ get_or-set_other rest n (n + suc j) (heavier (get_or weights n 0) rest n) 0 (λ f. omega (arith, f))
    ∙ ap (λ m. get_or rest m 0) (sym next)
    ∙ ih

pub weights_are_heaviest : WeightsAreHeaviest
weights_are_heaviest needs weights n e h =
    let same : 0 + n ≡ n = omega arith in
    subst (λ m. get_or (chains_from 0 needs weights (zeros (length needs))) m 0 ≡ get_or (heaviest_from 0 needs weights) n 0) same (from_on 0 needs weights (length needs) n e (omega arith) h)
