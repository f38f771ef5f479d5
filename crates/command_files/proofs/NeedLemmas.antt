-- Needs by a test: they hold it, and by them the plan's own order is an order.
use Rattle.std.proofs.Common.{◌≡◌, ℕ, zero, suc, ◌+◌, ◌<◌, List, [], ◌∷◌, ◌++◌, Bool, true, ◌==◌, length, take, get_or, refl, sym, ap, subst, ◌∙◌, arith, append_assoc, append-nil, get_or-take, length-take-le}
use Rattle.std.specs.List.{list_all, range_with_len}
use Rattle.std.proofs.lemmas.Bool.{false≢true, eq-eqb}
use Rattle.std.proofs.lemmas.List.Folds.{list_any-append}
use Rattle.std.proofs.lemmas.List.Sorted.{IsPermutation-refl}
use Rattle.command_files.specs.Order.{numbers_where, needs_behind, needs_by, is_in, is_ready, needs_at, own_order, NeedsHold, OwnOrderIsOne}
use Rattle.command_files.proofs.OrderLemmas.{in_first, in_second, in_both, passes}

-- there are needs for each command
pub length-needs_behind : {X : Type 0} (needed : X → X → Bool) (earlier xs : List X) → length (needs_behind needed earlier xs) ≡ length xs
length-needs_behind needed earlier [] = refl
length-needs_behind needed earlier (x ∷ xs) = ap suc (length-needs_behind needed (earlier ++ x ∷ []) xs)

-- the needs of a command are the numbers of those before it that pass
pub needs_at_place : {X : Type 0} (needed : X → X → Bool) (d : X) (earlier xs : List X) (k : ℕ) → k < length xs → get_or (needs_behind needed earlier xs) k [] ≡ numbers_where (λ e. needed e (get_or xs k d)) 0 (earlier ++ take k xs)
needs_at_place needed d earlier [] k h = absurd (omega arith)
needs_at_place needed d earlier (x ∷ xs) zero h = ap (numbers_where (λ e. needed e x) 0) (sym (append-nil earlier))
needs_at_place needed d earlier (x ∷ xs) (suc k) h = simp (append_assoc, (needs_at_place needed d (earlier ++ x ∷ []) xs k (omega arith)))

-- all numbers of those that pass are numbers of the list
pub numbers_below : {X : Type 0} (test : X → Bool) (n : ℕ) (xs : List X) (m : ℕ) → is_in (numbers_where test n xs) m ≡ true → m < n + length xs
numbers_below test n [] m e = absurd (false≢true e)
numbers_below test n (x ∷ xs) m e = grind (arith, list_any-append, (numbers_below test (n + 1) xs m))

-- a command needs each earlier one at which the test holds
pub needs_each : {X : Type 0} (needed : X → X → Bool) (d : X) (xs : List X) (i j : ℕ) → i < j → j < length xs → needed (get_or xs i d) (get_or xs j d) ≡ true → is_in (needs_at (needs_by needed xs) j) i ≡ true
needs_each needed d xs i j h k e =
    let size : length (take j xs) ≡ j = length-take-le j xs (omega arith) in
    let here : 0 + i ≡ i = omega arith in
    let among : is_in (numbers_where (λ x. needed x (get_or xs j d)) 0 (take j xs)) (0 + i) ≡ true =
    passes (λ x. needed x (get_or xs j d)) d 0 (take j xs) i (omega arith) (ap (λ x. needed x (get_or xs j d)) (get_or-take j xs i d h) ∙ e) in
    ap (λ ns. is_in ns i) (needs_at_place needed d [] xs j k)
    ∙ subst (λ m. is_in (numbers_where (λ x. needed x (get_or xs j d)) 0 (take j xs)) m ≡ true) here among

-- and none but earlier ones
pub needs_earlier : {X : Type 0} (needed : X → X → Bool) (d : X) (xs : List X) (j m : ℕ) → j < length xs → is_in (needs_at (needs_by needed xs) j) m ≡ true → m < j
needs_earlier needed d xs j m k e =
    let below : m < 0 + length (take j xs) = numbers_below (λ x. needed x (get_or xs j d)) 0 (take j xs) m (sym (ap (λ ns. is_in ns m) (needs_at_place needed d [] xs j k)) ∙ e) in
    grind (arith, length-take-le)

pub needs_hold : NeedsHold
needs_hold test plan = grind (arith, length-needs_behind, needs_each)

pub all_from : (test : ℕ → Bool) (ns : List ℕ) → ((m : ℕ) → is_in ns m ≡ true → test m ≡ true) → list_all test ns ≡ true
all_from test [] f = refl
all_from test (n ∷ ns) f = simp (in_both, in_first, eq-eqb, in_second, (all_from test ns (λ m e. f m (in_second (n == m) (is_in ns m) e))))

ready_in_order : (needs : ℕ → List ℕ) (bound : ℕ) → ((j m : ℕ) → j < bound → is_in (needs j) m ≡ true → m < j) → (done : List ℕ) (a n : ℕ) → a + n ≡ bound → ((m : ℕ) → m < a → is_in done m ≡ true) → is_ready needs done (range_with_len a n) ≡ true
ready_in_order needs bound earlier done a zero e known = refl
ready_in_order needs bound earlier done a (suc n) e known =
    in_both (list_all (is_in done) (needs a)) (is_ready needs (a ∷ done) (range_with_len (a + 1) n))
    (all_from (is_in done) (needs a) (λ m k. known m (earlier a m (omega arith) k)))
    (ready_in_order needs bound earlier (a ∷ done) (a + 1) n (omega arith) known_more)
  where
    known_more : (m : ℕ) → m < a + 1 → is_in (a ∷ done) m ≡ true
    known_more m h = grind (arith, (known m))

pub own_order_ready : {X : Type 0} (needed : X → X → Bool) (d : X) (xs : List X) → is_ready (needs_at (needs_by needed xs)) [] (own_order (needs_by needed xs)) ≡ true
own_order_ready needed d xs = grind (arith, length-needs_behind, ready_in_order, needs_earlier)

pub own_order_is_one : OwnOrderIsOne
own_order_is_one test plan = grind (arith, IsPermutation-refl, own_order_ready)
