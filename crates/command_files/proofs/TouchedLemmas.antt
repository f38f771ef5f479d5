-- Which numbers the code gathers, and that numbers which rise are known by which they are.
use Rattle.std.proofs.Common.{◌≡◌, ℕ, zero, suc, ◌+◌, ◌<◌, ◌≤◌, List, [], ◌∷◌, ◌++◌, Bool, true, false, cond, ◌&&◌, ◌||◌, ◌==◌, nat_lt, length, take, get_or, refl, sym, ap, subst, ◌∙◌, arith, append_assoc, add-one, bytes_eq, append-nil, get_or-take, length-take-le}
use Rattle.std.specs.Bool.{one_answer}
use Rattle.std.specs.List.{list_any, Contains}
use Rattle.std.specs.List.Sorted.{IsStrictlyIncreasing}
use Rattle.std.proofs.lemmas.Bool.{false≢true, eqb-true, eq-eqb, ltb-true, lt-ltb}
use Rattle.std.proofs.lemmas.List.Elements.{Contains-append_right, filter-append}
use Rattle.std.proofs.lemmas.List.Folds.{list_any-append, list_any_at}
use Rattle.std.proofs.lemmas.Slice.Eq.{bytes_eq-Decides}
use Rattle.command_files.specs.declared.steps.Step.{Step}
use Rattle.command_files.specs.Files.{is_among, share}
use Rattle.command_files.specs.Order.{numbers_where, is_in}
use Rattle.command_files.specs.Touched.{Numbers, with_number, with_numbers, numbers_from, below, touching, touching_either}
use Rattle.command_files.proofs.OrderLemmas.{in_either, in_first, in_second, fails, passes}
use Rattle.command_files.proofs.NeedLemmas.{numbers_below}

-- Tests.

or_none : (a : Bool) → (a || false) ≡ a
or_none a = grind arith

pub either_side : (a b c d : Bool) → ((a || (b && d)) || (c && d)) ≡ (a || ((b || c) && d))
either_side a b c d = grind arith

or_moved : (a b c : Bool) → ((a || b) || c) ≡ (a || (b || c))
or_moved a b c = grind arith

pub both_of_three : (t a b c : Bool) → ((t && a) || ((t && b) || (t && c))) ≡ (t && ((a || b) || c))
both_of_three t a b c = grind arith

and_or : (t a b : Bool) → ((t && a) || (t && b)) ≡ (t && (a || b))
and_or t a b = grind arith

and_false : (t : Bool) → (t && false) ≡ false
and_false t = grind arith

same_answer : (a b : Bool) → (a ≡ true → b ≡ true) → (b ≡ true → a ≡ true) → a ≡ b
same_answer a b f g = one_answer a b (f, g) (λ k. k, λ k. k)

-- Lists share a file both ways.

any_none : {X : Type 0} (xs : List X) → list_any (λ x. false) xs ≡ false
any_none [] = refl
any_none (x ∷ xs) = any_none xs

any_or : {X : Type 0} (f g : X → Bool) (xs : List X) → list_any (λ x. f x || g x) xs ≡ (list_any f xs || list_any g xs)
any_or f g [] = refl
any_or f g (x ∷ xs) = grind (arith, (any_or f g xs))

any_exchanged : {X Y : Type 0} (r : X → Y → Bool) (xs : List X) (ys : List Y) → list_any (λ x. list_any (λ y. r x y) ys) xs ≡ list_any (λ y. list_any (λ x. r x y) xs) ys
any_exchanged r [] ys = sym (any_none ys)
any_exchanged r (x ∷ xs) ys = simp (any_or, (any_exchanged r xs ys))

bytes_eq_sym : (a b : List ℕ) → bytes_eq a b ≡ bytes_eq b a
bytes_eq_sym a b = grind (arith, same_answer, bytes_eq-Decides)

pub share_sym : (some others : List (List ℕ)) → share some others ≡ share others some
share_sym some others =
    any_exchanged (λ x y. bytes_eq x y) some others
    ∙ (λ i. list_any (λ y. list_any (λ x. bytes_eq_sym x y i) some) others)

-- The numbers of a file.

in_with_number : (numbers : Numbers) (path : List ℕ) (n : ℕ) (file : List ℕ) (m : ℕ) → is_in (with_number numbers path n file) m ≡ (is_in (numbers file) m || (bytes_eq file path && (n == m)))
in_with_number numbers path n file m = grind (arith, list_any-append, or_none)

in_with_numbers : (numbers : Numbers) (paths : List (List ℕ)) (n : ℕ) (file : List ℕ) (m : ℕ) → is_in (with_numbers numbers paths n file) m ≡ (is_in (numbers file) m || (is_among paths file && (n == m)))
in_with_numbers numbers [] n file m = sym (or_none (is_in (numbers file) m))
in_with_numbers numbers (path ∷ paths) n file m = simp (in_with_number, either_side, (in_with_numbers (with_number numbers path n) paths n file m))

in_one_or_none : (b : Bool) (n m : ℕ) → is_in (cond b (n ∷ []) []) m ≡ (b && (n == m))
in_one_or_none b n m = grind (arith, or_none)

pub in_numbers_from : (files : Step → List (List ℕ)) (numbers : Numbers) (n : ℕ) (steps : List Step) (file : List ℕ) (m : ℕ) →
    is_in (numbers_from files numbers n steps file) m ≡ (is_in (numbers file) m || is_in (numbers_where (λ s. is_among (files s) file) n steps) m)
in_numbers_from files numbers n [] file m = sym (or_none (is_in (numbers file) m))
in_numbers_from files numbers n (s ∷ steps) file m = simp (in_with_numbers, or_moved, in_one_or_none, list_any-append, (in_numbers_from files (with_numbers numbers (files s) n) (n + 1) steps file m))

pub numbers_from_both : (files : Step → List (List ℕ)) (numbers : Numbers) (n : ℕ) (steps : List Step) (s : Step) →
    numbers_from files numbers n (steps ++ s ∷ []) ≡ with_numbers (numbers_from files numbers n steps) (files s) (n + length steps)
numbers_from_both files numbers n [] s = ap (with_numbers numbers (files s)) (let none : n ≡ n + 0 = omega arith in none)
numbers_from_both files numbers n (t ∷ steps) s = grind (arith, (numbers_from_both files (with_numbers numbers (files t) n) (n + 1) steps s))

-- Numbers below a bound.

pub in_below : (bound : ℕ) (numbers : List ℕ) (m : ℕ) → is_in (below bound numbers) m ≡ (nat_lt m bound && is_in numbers m)
in_below bound [] m = sym (and_false (nat_lt m bound))
in_below bound (x ∷ xs) m = grind (arith, (in_below bound xs m))

pub in_touching : (bound : ℕ) (numbers : Numbers) (paths : List (List ℕ)) (m : ℕ) → is_in (touching bound numbers paths) m ≡ (nat_lt m bound && list_any (λ path. is_in (numbers path) m) paths)
in_touching bound numbers [] m = sym (and_false (nat_lt m bound))
in_touching bound numbers (path ∷ paths) m = simp (list_any-append, in_below, and_or, (in_touching bound numbers paths m))

below_with_number : (n : ℕ) (numbers : Numbers) (path file : List ℕ) → below n (with_number numbers path n file) ≡ below n (numbers file)
below_with_number n numbers path file = grind (arith, filter-append, ltb-true, append-nil)

-- what writes a file doesn't count for itself
pub touching_noted : (n : ℕ) (readers writers : Numbers) (path : List ℕ) (paths : List (List ℕ)) → touching_either n readers (with_number writers path n) paths ≡ touching_either n readers writers paths
touching_noted n readers writers path [] = refl
touching_noted n readers writers path (p ∷ paths) =
    λ i. (below_with_number n writers path p i ++ below n (readers p)) ++ touching_noted n readers writers path paths i

touching_all_noted : (n : ℕ) (readers writers : Numbers) (some paths : List (List ℕ)) → touching_either n readers (with_numbers writers some n) paths ≡ touching_either n readers writers paths
touching_all_noted n readers writers [] paths = refl
touching_all_noted n readers writers (p ∷ some) paths = touching_all_noted n readers (with_number writers p n) some paths ∙ touching_noted n readers writers p paths

touching_either_both : (n : ℕ) (readers writers : Numbers) (some others : List (List ℕ)) → touching_either n readers writers some ++ touching_either n readers writers others ≡ touching_either n readers writers (some ++ others)
touching_either_both n readers writers [] others = refl
touching_either_both n readers writers (p ∷ paths) others = simp (append_assoc, (touching_either_both n readers writers paths others))

-- touching files and further ones
pub touching_both : (n : ℕ) (readers writers : Numbers) (some others : List (List ℕ)) →
    touching_either n readers writers some ++ touching_either n readers (with_numbers writers some n) others ≡ touching_either n readers writers (some ++ others)
touching_both n readers writers some others = simp (touching_all_noted, touching_either_both)

pub in_touching_either : (bound : ℕ) (readers writers : Numbers) (paths : List (List ℕ)) (m : ℕ) →
    is_in (touching_either bound readers writers paths) m ≡ (nat_lt m bound && (list_any (λ path. is_in (readers path) m) paths || list_any (λ path. is_in (writers path) m) paths))
in_touching_either bound readers writers [] m = sym (and_false (nat_lt m bound))
in_touching_either bound readers writers (path ∷ paths) m =
    list_any-append (λ k. k == m) (below bound (writers path) ++ below bound (readers path)) (touching_either bound readers writers paths)
    ∙ ap (λ b. b || is_in (touching_either bound readers writers paths) m) (list_any-append (λ k. k == m) (below bound (writers path)) (below bound (readers path)))
    ∙ (λ i. (in_below bound (writers path) m i || in_below bound (readers path) m i) || in_touching_either bound readers writers paths m i)
    ∙ crossed (nat_lt m bound) (is_in (writers path) m) (is_in (readers path) m) (list_any (λ p. is_in (readers p) m) paths) (list_any (λ p. is_in (writers p) m) paths)
  where
    crossed : (t w r rs ws : Bool) → (((t && w) || (t && r)) || (t && (rs || ws))) ≡ (t && ((r || rs) || (w || ws)))
    crossed t w r rs ws = grind arith

pub with_both : (numbers : Numbers) (some others : List (List ℕ)) (n : ℕ) → with_numbers (with_numbers numbers some n) others n ≡ with_numbers numbers (some ++ others) n
with_both numbers [] others n = refl
with_both numbers (path ∷ paths) others n = with_both (with_number numbers path n) paths others n

-- The numbers of the items that pass.

-- they begin with the first number
numbers_from_first : {X : Type 0} (test : X → Bool) (n : ℕ) (xs : List X) (m : ℕ) → is_in (numbers_where test n xs) m ≡ true → n ≤ m
numbers_from_first test n [] m e = absurd (false≢true e)
numbers_from_first test n (x ∷ xs) m e = grind (arith, list_any-append, in_one_or_none, (numbers_from_first test (n + 1) xs m))

holds_both : (a b : Bool) → (a && b) ≡ true → a ≡ true
holds_both a b h = grind arith

passed : {X : Type 0} (test : X → Bool) (d : X) (n : ℕ) (xs : List X) (i : ℕ) → is_in (numbers_where test n xs) (n + i) ≡ true → test (get_or xs i d) ≡ true
passed test d n [] i e = absurd (false≢true e)
passed test d n (x ∷ xs) zero e = grind (arith, in_either, holds_both, in_one_or_none, numbers_from_first, list_any-append)
passed test d n (x ∷ xs) (suc i) e = grind (arith, list_any-append, (passed test d (n + 1) xs i))

-- a number of the list is among them if its item passes
pub in_numbers : {X : Type 0} (test : X → Bool) (d : X) (xs : List X) (m : ℕ) → m < length xs → is_in (numbers_where test 0 xs) m ≡ test (get_or xs m d)
in_numbers test d xs m h =
    let none : 0 + m ≡ m = omega arith in
    grind (arith, same_answer, passed, passes)

-- and of the items before one, if it is before that one too
pub in_earlier : {X : Type 0} (test : X → Bool) (d : X) (xs : List X) (j m : ℕ) → j ≤ length xs → is_in (numbers_where test 0 (take j xs)) m ≡ (nat_lt m j && test (get_or xs m d))
in_earlier test d xs j m h =
    elim (nat_lt m j) as (λ b. nat_lt m j ≡ b → is_in (numbers_where test 0 (take j xs)) m ≡ (b && test (get_or xs m d))) [
      | true ↦ λ e.
          let before : m < j = ltb-true m j e in
          let size : length (take j xs) ≡ j = length-take-le j xs h in
          in_numbers test d (take j xs) m (omega arith) ∙ ap test (get_or-take j xs m d before)
      | false ↦ λ e. fails (is_in (numbers_where test 0 (take j xs)) m) (λ k.
          let size : length (take j xs) ≡ j = length-take-le j xs h in
          let within : m < 0 + length (take j xs) = numbers_below test 0 (take j xs) m k in
          false≢true (sym e ∙ lt-ltb m j (omega arith)))
    ]
    refl

-- Numbers that rise from a bound on.

abbrev pub Rises : ℕ → List ℕ → Type 0
Rises bound [] = Unit {0}
Rises bound (x ∷ xs) = (bound ≤ x) × Rises (suc x) xs

rises_higher : (a b : ℕ) (xs : List ℕ) → a ≤ b → Rises b xs → Rises a xs
rises_higher a b [] h r = tt
rises_higher a b (x ∷ xs) h r = let k : b ≤ x = r.0 in (omega arith, r.1)

pub rises_behind : (x : ℕ) (xs : List ℕ) → IsStrictlyIncreasing (x ∷ xs) → Rises (suc x) xs
rises_behind x [] h = tt
rises_behind x (y ∷ ys) h =
    let first : x < y = h 0 (omega arith) in
    (omega arith, rises_behind y ys (λ k w. rw add-one (rw add-one at (h (suc k) (omega arith)))))

pub rises : (xs : List ℕ) → IsStrictlyIncreasing xs → Rises 0 xs
rises [] h = tt
rises (x ∷ xs) h = (omega arith, rises_behind x xs h)

rise_on : (b : Bool) (n : ℕ) (rest : List ℕ) → Rises (n + 1) rest → Rises n (cond b (n ∷ []) [] ++ rest)
rise_on b n rest r = grind (arith, rises_higher)

pub numbers_rise : {X : Type 0} (test : X → Bool) (n : ℕ) (xs : List X) → Rises n (numbers_where test n xs)
numbers_rise test n [] = tt
numbers_rise test n (x ∷ xs) = rise_on (test x) n (numbers_where test (n + 1) xs) (numbers_rise test (n + 1) xs)

at_least : (b : ℕ) (xs : List ℕ) (m : ℕ) → Rises b xs → is_in xs m ≡ true → b ≤ m
at_least b [] m r e = absurd (false≢true e)
at_least b (x ∷ xs) m r e =
    in_either (x == m) (is_in xs m) (λ k. let same = eqb-true x m k in omega arith) (λ k. let ih : suc x ≤ m = at_least (suc x) xs m r.1 k in omega arith) e

head_in : (x : ℕ) (xs : List ℕ) → is_in (x ∷ xs) x ≡ true
head_in x xs = in_first (x == x) (is_in xs x) (eq-eqb x x refl)

-- lists that rise and have the same numbers are the same
pub same_numbers : (b : ℕ) (xs ys : List ℕ) → Rises b xs → Rises b ys → ((m : ℕ) → is_in xs m ≡ is_in ys m) → xs ≡ ys
same_numbers b [] [] r s f = refl
same_numbers b [] (y ∷ ys) r s f = absurd (false≢true (f y ∙ head_in y ys))
same_numbers b (x ∷ xs) [] r s f = absurd (false≢true (sym (f x) ∙ head_in x xs))
same_numbers b (x ∷ xs) (y ∷ ys) r s f =
    let low : y ≤ x = at_least y (y ∷ ys) x (omega arith, s.1) (sym (f x) ∙ head_in x xs) in
    let high : x ≤ y = at_least x (x ∷ xs) y (omega arith, r.1) (f y ∙ head_in y ys) in
    let same : x ≡ y = omega arith in
    let tails : xs ≡ ys = same_numbers (suc x) xs ys r.1 (subst (λ k. Rises (suc k) ys) (sym same) s.1) (λ m. rest same m) in
    λ i. same i ∷ tails i
  where
    rest : x ≡ y → (m : ℕ) → is_in xs m ≡ is_in ys m
    rest same m =
        same_answer (is_in xs m) (is_in ys m)
        (λ e.
        let above : suc x ≤ m = at_least (suc x) xs m r.1 e in
        in_either (y == m) (is_in ys m) (λ k. let other = eqb-true y m k in absurd (omega arith)) (λ k. k) (sym (f m) ∙ in_second (x == m) (is_in xs m) e))
        (λ e.
        let above : suc y ≤ m = at_least (suc y) ys m s.1 e in
        in_either (x == m) (is_in xs m) (λ k. let other = eqb-true x m k in absurd (omega arith)) (λ k. k) (f m ∙ in_second (y == m) (is_in ys m) e))

-- Elements of a list, by place and by test.

pub contained : (xs : List ℕ) (m : ℕ) → is_in xs m ≡ true → Contains xs m
contained [] m e = absurd (false≢true e)
contained (x ∷ xs) m e =
    in_either (x == m) (is_in xs m)
    (λ k. (0, omega arith, eqb-true x m k))
    (λ k. Contains-append_right (x ∷ []) xs m (contained xs m k)) e

pub has_contained : (xs : List ℕ) (m : ℕ) → Contains xs m → is_in xs m ≡ true
has_contained xs m c = list_any_at (λ k. k == m) xs c.0 m c.1 (eq-eqb (get_or xs c.0 m) m c.2)
