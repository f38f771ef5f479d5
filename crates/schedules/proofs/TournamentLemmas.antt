-- The winner of a tournament is the best of its entrants.
use Rattle.std.proofs.Common.{◌≡◌, ℕ, zero, suc, ◌+◌, ◌-◌, ◌*◌, ◌/◌, ◌<◌, ◌≤◌, ◌⊎◌, inl, inr, List, ◌∷◌, Bool, true, false, cond, length, get_or, refl, sym, ap, subst, ◌∙◌, arith}
use Rattle.std.specs.List.{filter, range_with_len}
use Rattle.std.proofs.lemmas.Bool.{false≢true, ltb-true, ltb-false}
use Rattle.std.proofs.lemmas.Bool.Decides.{nat_tests}
use Rattle.std.specs.Prelude.{nat_lt}
use Rattle.schedules.specs.Tournament.{precedes, better, entrant, Played}
use Rattle.schedules.specs.Scheduled.{best}

-- a greater priority outweighs every number
lex : (x y m c d : ℕ) → x < y → c ≤ m → x * suc m + c < y * suc m + d
lex x y m c d h k = grind arith

-- How good a command is, as one number: a better one has a greater number, and nobody has 0.
abbrev pub key : List ℕ → ℕ → ℕ
key ps n = cond (nat_lt n (length ps)) (get_or ps n 0 * suc (length ps) + (length ps - n)) 0

key_some : (ps : List ℕ) (n : ℕ) → n < length ps → key ps n ≡ get_or ps n 0 * suc (length ps) + (length ps - n)
key_some ps n h = grind (arith, nat_tests)

key_none : (ps : List ℕ) (n : ℕ) → length ps ≤ n → key ps n ≡ 0
key_none ps n h = grind (arith, nat_tests)

-- which of two commands is better, by their numbers
second_better : (ps : List ℕ) (a b : ℕ) → a < length ps → b < length ps → precedes ps a b ≡ true → key ps a ≤ key ps b
second_better ps a b h k e = grind (arith, nat_tests, lex, key_some ps a h, key_some ps b k)

first_better : (ps : List ℕ) (a b : ℕ) → a < length ps → b < length ps → precedes ps a b ≡ false → key ps b ≤ key ps a
first_better ps a b h k e = grind (arith, nat_tests, lex, key_some ps a h, key_some ps b k)

-- the better one of two is one of them, and no worse than either
record Beats (ps : List ℕ) (a b c : ℕ) : Type 0 where
  one_of : (c ≡ a) ⊎ (c ≡ b)
  first : key ps a ≤ key ps c
  second : key ps b ≤ key ps c

by_precedence : (ps : List ℕ) (a b : ℕ) → a < length ps → b < length ps → (t : Bool) → precedes ps a b ≡ t → Beats ps a b (cond t b a)
by_precedence ps a b h k true e = record { one_of = inr refl; first = second_better ps a b h k e; second = omega arith }
by_precedence ps a b h k false e = record { one_of = inl refl; first = omega arith; second = first_better ps a b h k e }

by_first : (ps : List ℕ) (a b : ℕ) → b < length ps → (t : Bool) → nat_lt a (length ps) ≡ t → Beats ps a b (cond t (cond (precedes ps a b) b a) b)
by_first ps a b k true e = by_precedence ps a b (ltb-true a (length ps) e) k (precedes ps a b) refl
by_first ps a b k false e = record { one_of = inr refl; first = omega (arith, key_none ps a (ltb-false a (length ps) e)); second = omega arith }

by_second : (ps : List ℕ) (a b : ℕ) (t : Bool) → nat_lt b (length ps) ≡ t → Beats ps a b (cond t (cond (nat_lt a (length ps)) (cond (precedes ps a b) b a) b) a)
by_second ps a b true e = by_first ps a b (ltb-true b (length ps) e) (nat_lt a (length ps)) refl
by_second ps a b false e = record { one_of = inl refl; first = omega arith; second = omega (arith, key_none ps b (ltb-false b (length ps) e)) }

beats : (ps : List ℕ) (a b : ℕ) → Beats ps a b (better ps a b)
beats ps a b = by_second ps a b (nat_lt b (length ps)) refl

lex_first : (x y m c d : ℕ) → c ≤ m → d ≤ m → x * suc m + c ≡ y * suc m + d → x ≡ y
lex_first x y m c d h k e = grind (arith, lex x y m c d, lex y x m d c)

lex_second : (x y m c d : ℕ) → c ≤ m → d ≤ m → x * suc m + c ≡ y * suc m + d → c ≡ d
lex_second x y m c d h k e = let same : x * suc m ≡ y * suc m = ap (λ z. z * suc m) (lex_first x y m c d h k e) in omega arith

-- commands of one number are one command
same_key : (ps : List ℕ) (a b : ℕ) → a ≤ length ps → b ≤ length ps → key ps a ≡ key ps b → a ≡ b
same_key ps a b h k e = by (nat_lt a (length ps)) refl (nat_lt b (length ps)) refl
  where
    both : a < length ps → b < length ps → get_or ps a 0 * suc (length ps) + (length ps - a) ≡ get_or ps b 0 * suc (length ps) + (length ps - b) → a ≡ b
    both p q f =
        let same : length ps - a ≡ length ps - b = lex_second (get_or ps a 0) (get_or ps b 0) (length ps) (length ps - a) (length ps - b) (omega arith) (omega arith) f in
        omega (arith, same, p, q)

    by : (s : Bool) → nat_lt a (length ps) ≡ s → (t : Bool) → nat_lt b (length ps) ≡ t → a ≡ b
    by true x true y = both (ltb-true a (length ps) x) (ltb-true b (length ps) y) (sym (key_some ps a (ltb-true a (length ps) x)) ∙ e ∙ key_some ps b (ltb-true b (length ps) y))
    by true x false y = absurd (omega (arith, e, key_some ps a (ltb-true a (length ps) x), key_none ps b (ltb-false b (length ps) y), ltb-true a (length ps) x))
    by false x true y = absurd (omega (arith, e, key_some ps b (ltb-true b (length ps) y), key_none ps a (ltb-false a (length ps) x), ltb-true b (length ps) y))
    by false x false y = omega (arith, ltb-false a (length ps) x, ltb-false b (length ps) y)

-- The root.

abbrev at : List ℕ → ℕ → ℕ
at tree i = get_or tree i 0

beaten_above : (ps tree : List ℕ) → Played ps tree → (k : ℕ) → 1 < k → k < length ps + length ps → key ps (at tree k) ≤ key ps (at tree (k / 2))
beaten_above ps tree played k more within = grind (arith, beats, played (k / 2) (omega arith) (omega arith))

root_by : (ps tree : List ℕ) → Played ps tree → (k : ℕ) → 0 < k → k < length ps + length ps → (t : Bool) → nat_lt 1 k ≡ t
    → (1 < k → key ps (at tree (k / 2)) ≤ key ps (at tree 1)) → key ps (at tree k) ≤ key ps (at tree 1)
root_by ps tree played k some within true e above = omega (arith, beaten_above ps tree played k (ltb-true 1 k e) within, above (ltb-true 1 k e))
root_by ps tree played k some within false e above = let one : k ≡ 1 = omega (arith, ltb-false 1 k e) in grind arith

root_beats : (ps tree : List ℕ) → Played ps tree → (fuel k : ℕ) → k ≤ fuel → 0 < k → k < length ps + length ps → key ps (at tree k) ≤ key ps (at tree 1)
root_beats ps tree played zero k le some within = absurd (omega arith)
root_beats ps tree played (suc fuel) k le some within =
    root_by ps tree played k some within (nat_lt 1 k) refl (λ more. root_beats ps tree played fuel (k / 2) (omega arith) (omega arith) (omega arith))

-- who is at a place is an entrant
abbrev IsEntrant : List ℕ → List ℕ → ℕ → Type 0
IsEntrant ps tree n = (k : ℕ) × ((k < length ps) × (n ≡ entrant ps tree k))

passed_on : (ps tree : List ℕ) (a b c : ℕ) → Beats ps a b c → IsEntrant ps tree a → IsEntrant ps tree b → IsEntrant ps tree c
passed_on ps tree a b c h p q = elim h.one_of [ inl e ↦ subst (IsEntrant ps tree) (sym e) p | inr e ↦ subst (IsEntrant ps tree) (sym e) q ]

entrant_by : (ps tree : List ℕ) → Played ps tree → (i : ℕ) → 0 < i → i < length ps + length ps → (t : Bool) → nat_lt i (length ps) ≡ t
    → (i < length ps → (j : ℕ) → i < j → j < length ps + length ps → IsEntrant ps tree (at tree j)) → IsEntrant ps tree (at tree i)
entrant_by ps tree played i some within true e below =
    let inner : i < length ps = ltb-true i (length ps) e in
    subst (IsEntrant ps tree) (sym (played i some inner))
    (passed_on ps tree (at tree (2 * i)) (at tree (2 * i + 1)) _ (beats ps (at tree (2 * i)) (at tree (2 * i + 1)))
    (below inner (2 * i) (omega arith) (omega arith)) (below inner (2 * i + 1) (omega arith) (omega arith)))
entrant_by ps tree played i some within false e below =
    let past : length ps ≤ i = ltb-false i (length ps) e in
    let place : length ps + (i - length ps) ≡ i = omega arith in
    (i - length ps, (omega arith, ap (at tree) (sym place)))

from_entrant : (ps tree : List ℕ) → Played ps tree → (fuel i : ℕ) → length ps ≤ i + fuel → 0 < i → i < length ps + length ps → IsEntrant ps tree (at tree i)
from_entrant ps tree played zero i enough some within = entrant_by ps tree played i some within (nat_lt i (length ps)) refl (λ inner j h k. absurd (omega arith))
from_entrant ps tree played (suc fuel) i enough some within =
    entrant_by ps tree played i some within (nat_lt i (length ps)) refl (λ inner j h k. from_entrant ps tree played fuel j (omega arith) (omega arith) k)

-- The best of a list.

best_step : (ps rest : List ℕ) (test : ℕ → Bool) (from n : ℕ) (t : Bool) → test from ≡ t → test n ≡ true → (n ≡ from) ⊎ (key ps n ≤ key ps (best ps rest)) → key ps n ≤ key ps (best ps (cond t (from ∷ rest) rest))
best_step ps rest test from n true e passes (inl same) = grind (arith, beats)
best_step ps rest test from n true e passes (inr le) = let b : Beats ps from (best ps rest) (better ps from (best ps rest)) = beats ps from (best ps rest) in omega (arith, le, b.second)
best_step ps rest test from n false e passes (inl same) = absurd (false≢true (sym e ∙ ap test (sym same) ∙ passes))
best_step ps rest test from n false e passes (inr le) = le

here_or_behind : (from n : ℕ) → from ≤ n → (n ≡ from) ⊎ (from + 1 ≤ n)
here_or_behind from n h =
    elim (nat_lt from n) as (λ t. nat_lt from n ≡ t → (n ≡ from) ⊎ (from + 1 ≤ n)) [
      | true ↦ λ e. inr (omega (arith, ltb-true from n e))
      | false ↦ λ e. inl (omega (arith, ltb-false from n e))
    ] refl

pub best_beats : (ps : List ℕ) (test : ℕ → Bool) (from count n : ℕ) → from ≤ n → n < from + count → test n ≡ true → key ps n ≤ key ps (best ps (filter test (range_with_len from count)))
best_beats ps test from zero n h k e = absurd (omega arith)
best_beats ps test from (suc count) n h k e =
    best_step ps (filter test (range_with_len (from + 1) count)) test from n (test from) refl e
    (elim (here_or_behind from n h) [ inl same ↦ inl same | inr behind ↦ inr (best_beats ps test (from + 1) count n behind (omega arith) e) ])

-- who is best is one of them, or nobody
pub record IsOneOf (ps : List ℕ) (test : ℕ → Bool) (n : ℕ) : Type 0 where
  pub within : n ≤ length ps
  pub passes : n < length ps → test n ≡ true

one_of_step : (ps rest : List ℕ) (test : ℕ → Bool) (from : ℕ) (t : Bool) → test from ≡ t → from < length ps → IsOneOf ps test (best ps rest) → IsOneOf ps test (best ps (cond t (from ∷ rest) rest))
one_of_step ps rest test from true e h one =
    elim (beats ps from (best ps rest)).one_of [
      | inl first ↦ subst (IsOneOf ps test) (sym first) (record { within = omega arith; passes = λ _. e })
      | inr second ↦ subst (IsOneOf ps test) (sym second) one
    ]
one_of_step ps rest test from false e h one = one

pub best_is_one : (ps : List ℕ) (test : ℕ → Bool) (from count : ℕ) → from + count ≤ length ps → IsOneOf ps test (best ps (filter test (range_with_len from count)))
best_is_one ps test from zero h = record { within = omega arith; passes = λ k. absurd (omega arith) }
best_is_one ps test from (suc count) h =
    one_of_step ps (filter test (range_with_len (from + 1) count)) test from (test from) refl (omega arith) (best_is_one ps test (from + 1) count (omega arith))

-- The winner is the best of those that entered.

-- those that pass a test entered, and no others
abbrev pub Enter : List ℕ → List ℕ → (ℕ → Bool) → Type 0
Enter ps tree test = (n : ℕ) → n < length ps → entrant ps tree n ≡ cond (test n) n (length ps)

entered_is_one : (ps tree : List ℕ) (test : ℕ → Bool) → Enter ps tree test → (n : ℕ) → IsEntrant ps tree n → IsOneOf ps test n
entered_is_one ps tree test enter n (k, (h, e)) = by (test k) refl
  where
    by : (t : Bool) → test k ≡ t → IsOneOf ps test n
    by true p =
        let is : n ≡ k = e ∙ enter k h ∙ ap (λ t. cond t k (length ps)) p in
        subst (IsOneOf ps test) (sym is) (record { within = omega arith; passes = λ _. p })
    by false p =
        let is : n ≡ length ps = e ∙ enter k h ∙ ap (λ t. cond t k (length ps)) p in
        subst (IsOneOf ps test) (sym is) (record { within = omega arith; passes = λ k. absurd (omega arith) })

-- one of them has no greater number than one that no other has a greater one than
no_better : (ps : List ℕ) (test : ℕ → Bool) (n best : ℕ) → IsOneOf ps test n → ((m : ℕ) → m < length ps → test m ≡ true → key ps m ≤ key ps best) → key ps n ≤ key ps best
no_better ps test n best one beats =
    elim (nat_lt n (length ps)) as (λ t. nat_lt n (length ps) ≡ t → key ps n ≤ key ps best) [
      | true ↦ λ e. let h : n < length ps = ltb-true n (length ps) e in beats n h (one.passes h)
      | false ↦ λ e. omega (arith, key_none ps n (ltb-false n (length ps) e))
    ] refl

root_beats_all : (ps tree : List ℕ) (test : ℕ → Bool) → Played ps tree → Enter ps tree test → (m : ℕ) → m < length ps → test m ≡ true → key ps m ≤ key ps (at tree 1)
root_beats_all ps tree test played enter m h e =
    let is : entrant ps tree m ≡ m = enter m h ∙ ap (λ t. cond t m (length ps)) e in
    subst (λ n. key ps n ≤ key ps (at tree 1)) is (root_beats ps tree played (length ps + m) (length ps + m) (omega arith) (omega arith) (omega arith))

pub root_is_best : (ps tree : List ℕ) (test : ℕ → Bool) → 0 < length ps → Played ps tree → Enter ps tree test → at tree 1 ≡ best ps (filter test (range_with_len 0 (length ps)))
root_is_best ps tree test some played enter =
    let winner : IsOneOf ps test (at tree 1) = entered_is_one ps tree test enter (at tree 1) (from_entrant ps tree played (length ps) 1 (omega arith) (omega arith) (omega arith)) in
    let other : IsOneOf ps test (best ps (filter test (range_with_len 0 (length ps)))) = best_is_one ps test 0 (length ps) (omega arith) in
    let no_worse : key ps (best ps (filter test (range_with_len 0 (length ps)))) ≤ key ps (at tree 1) =
    no_better ps test (best ps (filter test (range_with_len 0 (length ps)))) (at tree 1) other (root_beats_all ps tree test played enter) in
    let no_greater : key ps (at tree 1) ≤ key ps (best ps (filter test (range_with_len 0 (length ps)))) =
    no_better ps test (at tree 1) (best ps (filter test (range_with_len 0 (length ps)))) winner (λ m h e. best_beats ps test 0 (length ps) m (omega arith) (omega arith) e) in
    same_key ps (at tree 1) (best ps (filter test (range_with_len 0 (length ps)))) winner.within other.within (omega arith)

-- if one of them is a command, the best is one
pub some_best : (ps : List ℕ) (test : ℕ → Bool) (from count n : ℕ) → from ≤ n → n < from + count → n < length ps → test n ≡ true → best ps (filter test (range_with_len from count)) < length ps
some_best ps test from count n h k w e = by (nat_lt (best ps (filter test (range_with_len from count))) (length ps)) refl
  where
    by : (t : Bool) → nat_lt (best ps (filter test (range_with_len from count))) (length ps) ≡ t → best ps (filter test (range_with_len from count)) < length ps
    by true f = ltb-true (best ps (filter test (range_with_len from count))) (length ps) f
    by false f =
        let none : key ps (best ps (filter test (range_with_len from count))) ≡ 0 = key_none ps (best ps (filter test (range_with_len from count))) (ltb-false (best ps (filter test (range_with_len from count))) (length ps) f) in
        let some : key ps n ≡ get_or ps n 0 * suc (length ps) + (length ps - n) = key_some ps n w in
        let beats : key ps n ≤ key ps (best ps (filter test (range_with_len from count))) = best_beats ps test from count n h k e in
        absurd (omega (arith, none, some, beats, w))
