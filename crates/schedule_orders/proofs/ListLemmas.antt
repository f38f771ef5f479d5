-- Numbers in lists, and orders that begin with some.
use Rattle.std.proofs.Common.{◌≡◌, ℕ, zero, suc, ◌+◌, ◌<◌, ◌≤◌, List, [], ◌∷◌, ◌++◌, Bool, true, false, cond, ◌||◌, ◌==◌, get_or, refl, sym, ap, subst, ◌∙◌, arith, IsPermutation}
use Rattle.std.specs.Prelude.{not}
use Rattle.std.specs.List.{filter, list_all, range_with_len}
use Rattle.std.proofs.lemmas.Bool.{false≢true, and_parts, eqb-true, eq-eqb}
use Rattle.std.proofs.lemmas.List.Sorted.{IsPermutation-refl, IsPermutation-trans, IsPermutation-cons, IsPermutation-middle, IsPermutation-append_left, IsPermutation-filter_both}
use Rattle.command_files.specs.Order.{numbers_where, is_in, is_ready}
use Rattle.command_files.proofs.OrderLemmas.{in_either, in_first, in_second, in_both, fails, in_range}
use Rattle.command_files.proofs.NeedLemmas.{all_from}

-- the converse of what stands in a list: by cases on whether it is the first
pub by_first : {P : Type 0} (a m : ℕ) (xs : List ℕ) → (a ≡ m → P) → (is_in xs m ≡ true → P) → is_in (a ∷ xs) m ≡ true → P
by_first a m xs f g e = in_either (a == m) (is_in xs m) (λ k. f (eqb-true a m k)) g e

pub first_in : (m : ℕ) (xs : List ℕ) → is_in (m ∷ xs) m ≡ true
first_in m xs = in_first (m == m) (is_in xs m) (eq-eqb m m refl)

-- Numbers of what passes a test.

-- a number of those that pass isn't below the first
not_below : {X : Type 0} (test : X → Bool) (n : ℕ) (xs : List X) (m : ℕ) → is_in (numbers_where test n xs) m ≡ true → n ≤ m
not_below test n [] m e = absurd (false≢true e)
not_below test n (x ∷ xs) m e = by (test x) (not_below test (n + 1) xs m) e
  where
    by : (b : Bool) → (is_in (numbers_where test (n + 1) xs) m ≡ true → n + 1 ≤ m) → is_in (cond b (n ∷ []) [] ++ numbers_where test (n + 1) xs) m ≡ true → n ≤ m
    by true ih k = by_first n m (numbers_where test (n + 1) xs) (λ s. omega (arith, s)) (λ l. let later : n + 1 ≤ m = ih l in omega (arith, later)) k
    by false ih k = let later : n + 1 ≤ m = ih k in omega (arith, later)

-- and it passes
pub passed_at : {X : Type 0} (test : X → Bool) (d : X) (n : ℕ) (xs : List X) (i : ℕ) → is_in (numbers_where test n xs) (n + i) ≡ true → test (get_or xs i d) ≡ true
passed_at test d n [] i e = absurd (false≢true e)
passed_at test d n (x ∷ xs) zero e = by (test x) refl e
  where
    by : (b : Bool) → test x ≡ b → is_in (cond b (n ∷ []) [] ++ numbers_where test (n + 1) xs) (n + zero) ≡ true → test x ≡ true
    by true t k = t
    by false t k = let later : n + 1 ≤ n + zero = not_below test (n + 1) xs (n + zero) k in absurd (omega (arith, later))
passed_at test d n (x ∷ xs) (suc i) e =
    let same : n + suc i ≡ (n + 1) + i = omega arith in
    passed_at test d (n + 1) xs i (by (test x) (subst (λ m. is_in (numbers_where test n (x ∷ xs)) m ≡ true) same e))
  where
    by : (b : Bool) → is_in (cond b (n ∷ []) [] ++ numbers_where test (n + 1) xs) ((n + 1) + i) ≡ true → is_in (numbers_where test (n + 1) xs) ((n + 1) + i) ≡ true
    by true k = by_first n ((n + 1) + i) (numbers_where test (n + 1) xs) (λ s. absurd (omega (arith, s))) (λ l. l) k
    by false k = k

-- Some of the numbers from one on.

pub range_has : (a n x : ℕ) → a ≤ x → x < a + n → is_in (range_with_len a n) x ≡ true
range_has a zero x h k = absurd (omega (arith, h, k))
range_has a (suc n) x h k = by (a == x) refl (range_has (a + 1) n x)
  where
    by : (b : Bool) → (a == x) ≡ b → (a + 1 ≤ x → x < (a + 1) + n → is_in (range_with_len (a + 1) n) x ≡ true) → (a == x || is_in (range_with_len (a + 1) n) x) ≡ true
    by true e ih = in_first (a == x) (is_in (range_with_len (a + 1) n) x) e
    by false e ih =
        let differ : a ≡ x → ⊥ = λ s. false≢true (sym e ∙ eq-eqb a x s) in
        in_second (a == x) (is_in (range_with_len (a + 1) n) x) (ih (omega (arith, differ, h)) (omega (arith, k)))

-- none of which a test holds at most
filter_same : (one other : ℕ → Bool) (xs : List ℕ) → ((x : ℕ) → is_in xs x ≡ true → one x ≡ other x) → filter one xs ≡ filter other xs
filter_same one other [] f = refl
filter_same one other (x ∷ xs) f =
    ap (λ b. cond b (x ∷ filter one xs) (filter one xs)) (f x (first_in x xs))
    ∙ ap (λ ys. cond (other x) (x ∷ ys) ys) (filter_same one other xs (λ y k. f y (in_second (x == y) (is_in xs y) k)))

-- a number that isn't in a list makes no difference there
other_number : (r : ℕ) (rs xs : List ℕ) → ((x : ℕ) → is_in xs x ≡ true → r ≡ x → ⊥) → filter (is_in (r ∷ rs)) xs ≡ filter (is_in rs) xs
other_number r rs xs differ =
    filter_same (is_in (r ∷ rs)) (is_in rs) xs (λ x k. ap (λ b. b || is_in rs x) (fails (r == x) (λ t. differ x k (eqb-true r x t))))

-- one number comes to the front
at_front : (r : ℕ) (rs : List ℕ) (a n : ℕ) → is_in rs r ≡ false → r ≡ a → filter (is_in (r ∷ rs)) (range_with_len a (suc n)) ≡ r ∷ filter (is_in rs) (range_with_len a (suc n))
at_front r rs a n new s =
    let xs : List ℕ = range_with_len (a + 1) n in
    let differ : (x : ℕ) → is_in xs x ≡ true → r ≡ x → ⊥ = λ x k f. let place : (a + 1 ≤ x) × (x < (a + 1) + n) = in_range (a + 1) n x k in omega (arith, place.0, f, s) in
    let now : filter (is_in (r ∷ rs)) (range_with_len a (suc n)) ≡ a ∷ filter (is_in rs) xs =
    ap (λ b. cond b (a ∷ filter (is_in (r ∷ rs)) xs) (filter (is_in (r ∷ rs)) xs)) (in_first (r == a) (is_in rs a) (eq-eqb r a s))
    ∙ ap (λ ys. a ∷ ys) (other_number r rs xs differ) in
    let then : filter (is_in rs) (range_with_len a (suc n)) ≡ filter (is_in rs) xs =
    ap (λ b. cond b (a ∷ filter (is_in rs) xs) (filter (is_in rs) xs)) (subst (λ x. is_in rs x ≡ false) s new) in
    now ∙ ap (λ x. x ∷ filter (is_in rs) xs) (sym s) ∙ ap (λ ys. r ∷ ys) (sym then)

past_front : (b : Bool) (a r : ℕ) (front rest : List ℕ) → IsPermutation front (r ∷ rest) → IsPermutation (cond b (a ∷ front) front) (r ∷ cond b (a ∷ rest) rest)
past_front false a r front rest h = h
past_front true a r front rest h =
    IsPermutation-trans (a ∷ front) (a ∷ r ∷ rest) (r ∷ a ∷ rest) (IsPermutation-cons a front (r ∷ rest) h) (IsPermutation-middle (a ∷ []) r rest)

to_front : (r : ℕ) (rs : List ℕ) (a n : ℕ) → is_in rs r ≡ false → a ≤ r → r < a + n → IsPermutation (filter (is_in (r ∷ rs)) (range_with_len a n)) (r ∷ filter (is_in rs) (range_with_len a n))
to_front r rs a zero new le lt = absurd (omega (arith, le, lt))
to_front r rs a (suc n) new le lt = by (r == a) refl (λ later. to_front r rs (a + 1) n new later (omega (arith, lt)))
  where
    by : (b : Bool) → (r == a) ≡ b → (a + 1 ≤ r → IsPermutation (filter (is_in (r ∷ rs)) (range_with_len (a + 1) n)) (r ∷ filter (is_in rs) (range_with_len (a + 1) n))) → IsPermutation (filter (is_in (r ∷ rs)) (range_with_len a (suc n))) (r ∷ filter (is_in rs) (range_with_len a (suc n)))
    by true e ih =
        subst (λ ys. IsPermutation (filter (is_in (r ∷ rs)) (range_with_len a (suc n))) ys) (at_front r rs a n new (eqb-true r a e))
        (IsPermutation-refl (filter (is_in (r ∷ rs)) (range_with_len a (suc n))))
    by false e ih =
        let differ : r ≡ a → ⊥ = λ s. false≢true (sym e ∙ eq-eqb r a s) in
        subst (λ b. IsPermutation (cond (b || is_in rs a) (a ∷ filter (is_in (r ∷ rs)) (range_with_len (a + 1) n)) (filter (is_in (r ∷ rs)) (range_with_len (a + 1) n))) (r ∷ filter (is_in rs) (range_with_len a (suc n)))) (sym e)
        (past_front (is_in rs a) a r (filter (is_in (r ∷ rs)) (range_with_len (a + 1) n)) (filter (is_in rs) (range_with_len (a + 1) n)) (ih (omega (arith, differ, le))))

-- numbers, each of them once and in a range
abbrev pub EachOnce : ℕ → List ℕ → Type 0
EachOnce bound [] = Unit {0}
EachOnce bound (r ∷ rs) = (r < bound) × ((is_in rs r ≡ false) × EachOnce bound rs)

filter_none : (xs : List ℕ) → filter (is_in []) xs ≡ []
filter_none [] = refl
filter_none (x ∷ xs) = filter_none xs

pub once_permutes : (bound : ℕ) (rs : List ℕ) → EachOnce bound rs → IsPermutation (filter (is_in rs) (range_with_len 0 bound)) rs
once_permutes bound [] h = subst (λ ys. IsPermutation ys []) (sym (filter_none (range_with_len 0 bound))) (IsPermutation-refl [])
once_permutes bound (r ∷ rs) h =
    IsPermutation-trans (filter (is_in (r ∷ rs)) (range_with_len 0 bound)) (r ∷ filter (is_in rs) (range_with_len 0 bound)) (r ∷ rs)
    (to_front r rs 0 bound h.1.0 (omega arith) (omega (arith, h.0)))
    (IsPermutation-cons r (filter (is_in rs) (range_with_len 0 bound)) rs (once_permutes bound rs h.1.1))

-- if all pass, all are left
pub filter_all : (test : ℕ → Bool) (xs : List ℕ) → ((x : ℕ) → is_in xs x ≡ true → test x ≡ true) → filter test xs ≡ xs
filter_all test [] f = refl
filter_all test (x ∷ xs) f =
    ap (λ b. cond b (x ∷ filter test xs) (filter test xs)) (f x (first_in x xs))
    ∙ ap (λ ys. x ∷ ys) (filter_all test xs (λ y k. f y (in_second (x == y) (is_in xs y) k)))

-- Orders.

-- those that haven't run, behind those that have
abbrev pub the_rest : List ℕ → ℕ → List ℕ
the_rest ran bound = filter (λ n. not (is_in ran n)) (range_with_len 0 bound)

pub rest_permutes : (bound : ℕ) (ran : List ℕ) → EachOnce bound ran → IsPermutation (range_with_len 0 bound) (ran ++ the_rest ran bound)
rest_permutes bound ran h =
    let own : List ℕ = range_with_len 0 bound in
    IsPermutation-trans own (filter (is_in ran) own ++ the_rest ran bound) (ran ++ the_rest ran bound)
    (IsPermutation-filter_both (is_in ran) (λ n. not (is_in ran n)) (λ n. refl) own)
    (IsPermutation-append_left (the_rest ran bound) (filter (is_in ran) own) ran (once_permutes bound ran h))

-- what is ready behind others
pub ready_append : (needs : ℕ → List ℕ) (done xs ys : List ℕ) → is_ready needs done xs ≡ true
    → ((more : List ℕ) → ((m : ℕ) → is_in done m ≡ true → is_in more m ≡ true) → ((m : ℕ) → is_in xs m ≡ true → is_in more m ≡ true) → is_ready needs more ys ≡ true)
    → is_ready needs done (xs ++ ys) ≡ true
ready_append needs done [] ys e f = f done (λ m k. k) (λ m k. absurd (false≢true k))
ready_append needs done (x ∷ xs) ys e f =
    let parts : (list_all (is_in done) (needs x) ≡ true) × (is_ready needs (x ∷ done) xs ≡ true) = and_parts (list_all (is_in done) (needs x)) (is_ready needs (x ∷ done) xs) e in
    in_both (list_all (is_in done) (needs x)) (is_ready needs (x ∷ done) (xs ++ ys)) parts.0
    (ready_append needs (x ∷ done) xs ys parts.1
    (λ more known there. f more
    (λ m k. known m (in_second (x == m) (is_in done m) k))
    (λ m k. by_first x m xs (λ s. known m (in_first (x == m) (is_in done m) (eq-eqb x m s))) (λ l. there m l) k)))

-- numbers below one more
one_more : (more : List ℕ) (a : ℕ) → is_in more a ≡ true → ((m : ℕ) → m < a → is_in more m ≡ true) → (m : ℕ) → m < a + 1 → is_in more m ≡ true
one_more more a there known m h = by (m == a) refl
  where
    by : (b : Bool) → (m == a) ≡ b → is_in more m ≡ true
    by true k = subst (λ x. is_in more x ≡ true) (sym (eqb-true m a k)) there
    by false k = known m (let differ : m ≡ a → ⊥ = λ s. false≢true (sym k ∙ eq-eqb m a s) in omega (arith, differ, h))

-- the rest is ready behind what has run, if each needs only earlier ones
rest_from : (needs : ℕ → List ℕ) (ran more : List ℕ) (a n : ℕ)
    → ((j m : ℕ) → j < a + n → is_in (needs j) m ≡ true → m < j)
    → ((m : ℕ) → is_in ran m ≡ true → is_in more m ≡ true)
    → ((m : ℕ) → m < a → is_in more m ≡ true)
    → is_ready needs more (filter (λ k. not (is_in ran k)) (range_with_len a n)) ≡ true
rest_from needs ran more a zero earlier there known = refl
rest_from needs ran more a (suc n) earlier there known =
    let earlier_on : (j m : ℕ) → j < (a + 1) + n → is_in (needs j) m ≡ true → m < j = λ j m h k. earlier j m (omega (arith, h)) k in
    by (is_in ran a) refl
    (λ e. rest_from needs ran more (a + 1) n earlier_on there (one_more more a (there a e) known))
    (rest_from needs ran (a ∷ more) (a + 1) n earlier_on (λ m k. in_second (a == m) (is_in more m) (there m k))
    (one_more (a ∷ more) a (first_in a more) (λ m h. in_second (a == m) (is_in more m) (known m h))))
  where
    by : (b : Bool) → is_in ran a ≡ b
        → (is_in ran a ≡ true → is_ready needs more (filter (λ k. not (is_in ran k)) (range_with_len (a + 1) n)) ≡ true)
        → is_ready needs (a ∷ more) (filter (λ k. not (is_in ran k)) (range_with_len (a + 1) n)) ≡ true
        → is_ready needs more (cond (not b) (a ∷ filter (λ k. not (is_in ran k)) (range_with_len (a + 1) n)) (filter (λ k. not (is_in ran k)) (range_with_len (a + 1) n))) ≡ true
    by true e ran_ready rest = ran_ready e
    by false e ran_ready rest =
        in_both (list_all (is_in more) (needs a)) (is_ready needs (a ∷ more) (filter (λ k. not (is_in ran k)) (range_with_len (a + 1) n)))
        (all_from (is_in more) (needs a) (λ m k. known m (earlier a m (omega arith) k)))
        rest

pub rest_ready : (needs : ℕ → List ℕ) (bound : ℕ) (ran : List ℕ) → ((j m : ℕ) → j < bound → is_in (needs j) m ≡ true → m < j) → is_ready needs [] ran ≡ true → is_ready needs [] (ran ++ the_rest ran bound) ≡ true
rest_ready needs bound ran earlier e =
    ready_append needs [] ran (the_rest ran bound) e
    (λ more known there. rest_from needs ran more 0 bound (λ j m h k. earlier j m (omega (arith, h)) k) there (λ m h. absurd (omega (arith, h))))
