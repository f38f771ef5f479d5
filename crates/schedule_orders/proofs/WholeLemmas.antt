-- All parts, one command after the other, are the commands one after the other.
use Rattle.std.proofs.Common.{◌≡◌, ℕ, zero, suc, ◌+◌, ◌<◌, ◌≤◌, List, [], ◌∷◌, ◌++◌, Bool, true, false, cond, ◌==◌, length, get_or, refl, sym, ap, ◌∙◌, arith}
use Rattle.std.specs.List.{range_with_len}
use Rattle.std.proofs.lemmas.Bool.{false≢true, eqb-true, eq-eqb}
use Rattle.command_files.specs.Files.{Files}
use Rattle.command_files.specs.Order.{numbers_where, Contents, Effect, contents_after}
use Rattle.command_files.specs.Overlap.{ArePartsOf}
use Rattle.command_files.proofs.OrderLemmas.{fails}
use Rattle.schedule_orders.specs.Histories.{parts_of}
use Rattle.schedule_orders.specs.Products.{as_a_whole}

-- the numbers, from one on, of the parts of commands
abbrev gathered : ℕ → List ℕ → List ℕ → List ℕ
gathered a parts [] = []
gathered a parts (n ∷ ns) = numbers_where (λ p. p == n) a parts ++ gathered a parts ns

none_gathered : (a : ℕ) (ns : List ℕ) → gathered a [] ns ≡ []
none_gathered a [] = refl
none_gathered a (n ∷ ns) = none_gathered a ns

-- none of a command below all of them
none_of : (n a : ℕ) (ps : List ℕ) → ((j : ℕ) → j < length ps → n < get_or ps j 0) → numbers_where (λ p. p == n) a ps ≡ []
none_of n a [] f = refl
none_of n a (p ∷ ps) f =
    let first : n < p = f 0 (omega arith) in
    let other : (p == n) ≡ false = fails (p == n) (λ e. let same : p ≡ n = eqb-true p n e in omega (arith, first, same)) in
    ap (λ b. cond b (a ∷ []) [] ++ numbers_where (λ q. q == n) (a + 1) ps) other ∙ none_of n (a + 1) ps (λ j h. f (suc j) (omega (arith, h)))

-- a part of a command that comes before all of them
not_gathered : (a k count p : ℕ) (ps : List ℕ) → p < k → gathered a (p ∷ ps) (range_with_len k count) ≡ gathered (a + 1) ps (range_with_len k count)
not_gathered a k zero p ps h = refl
not_gathered a k (suc count) p ps h =
    let other : (p == k) ≡ false = fails (p == k) (λ e. let same : p ≡ k = eqb-true p k e in omega (arith, h, same)) in
    ap (λ b. (cond b (a ∷ []) [] ++ numbers_where (λ q. q == k) (a + 1) ps) ++ gathered a (p ∷ ps) (range_with_len (k + 1) count)) other
    ∙ ap (λ rest. numbers_where (λ q. q == k) (a + 1) ps ++ rest) (not_gathered a (k + 1) count p ps (omega (arith, h)))

-- the first part comes first
first_gathered : (a k count p : ℕ) (ps : List ℕ) → k ≤ p → p < k + count → ((j : ℕ) → j < length ps → p ≤ get_or ps j 0) → gathered a (p ∷ ps) (range_with_len k count) ≡ a ∷ gathered (a + 1) ps (range_with_len k count)
first_gathered a k zero p ps le lt f = absurd (omega (arith, le, lt))
first_gathered a k (suc count) p ps le lt f = by (p == k) refl (λ more. first_gathered a (k + 1) count p ps more (omega (arith, lt)) f)
  where
    by : (b : Bool) → (p == k) ≡ b → (k + 1 ≤ p → gathered a (p ∷ ps) (range_with_len (k + 1) count) ≡ a ∷ gathered (a + 1) ps (range_with_len (k + 1) count))
        → (cond (p == k) (a ∷ []) [] ++ numbers_where (λ q. q == k) (a + 1) ps) ++ gathered a (p ∷ ps) (range_with_len (k + 1) count) ≡ a ∷ (numbers_where (λ q. q == k) (a + 1) ps ++ gathered (a + 1) ps (range_with_len (k + 1) count))
    by true e ih =
        let same : p ≡ k = eqb-true p k e in
        ap (λ b. (cond b (a ∷ []) [] ++ numbers_where (λ q. q == k) (a + 1) ps) ++ gathered a (p ∷ ps) (range_with_len (k + 1) count)) e
        ∙ ap (λ rest. a ∷ (numbers_where (λ q. q == k) (a + 1) ps ++ rest)) (not_gathered a (k + 1) count p ps (omega (arith, same)))
    by false e ih =
        let differ : p ≡ k → ⊥ = λ s. false≢true (sym e ∙ eq-eqb p k s) in
        let more : k + 1 ≤ p = omega (arith, differ, le) in
        let empty : numbers_where (λ q. q == k) (a + 1) ps ≡ [] = none_of k (a + 1) ps (λ j h. let at : p ≤ get_or ps j 0 = f j h in omega (arith, at, more)) in
        ap (λ b. (cond b (a ∷ []) [] ++ numbers_where (λ q. q == k) (a + 1) ps) ++ gathered a (p ∷ ps) (range_with_len (k + 1) count)) e
        ∙ ap (λ ns. ns ++ gathered a (p ∷ ps) (range_with_len (k + 1) count)) empty
        ∙ ih more
        ∙ ap (λ ns. a ∷ (ns ++ gathered (a + 1) ps (range_with_len (k + 1) count))) (sym empty)

all_gathered : (a count : ℕ) (parts : List ℕ) → ((i : ℕ) → i < length parts → get_or parts i 0 < count) → ((i j : ℕ) → i < j → j < length parts → get_or parts i 0 ≤ get_or parts j 0) → range_with_len a (length parts) ≡ gathered a parts (range_with_len 0 count)
all_gathered a count [] below rise = sym (none_gathered a (range_with_len 0 count))
all_gathered a count (p ∷ ps) below rise =
    let first : p < count = below 0 (omega arith) in
    ap (λ ns. a ∷ ns) (all_gathered (a + 1) count ps (λ i h. below (suc i) (omega (arith, h))) (λ i j h k. rise (suc i) (suc j) (omega (arith, h)) (omega (arith, k))))
    ∙ sym (first_gathered a 0 count p ps (omega arith) (omega (arith, first)) (λ j h. rise 0 (suc j) (omega arith) (omega (arith, h))))

after_append : (effects : ℕ → Effect) (xs ys : List ℕ) (contents : Contents) → contents_after effects (xs ++ ys) contents ≡ contents_after effects ys (contents_after effects xs contents)
after_append effects [] ys contents = refl
after_append effects (x ∷ xs) ys contents = after_append effects xs ys (effects x contents)

after_gathered : (parts : List ℕ) (effects : ℕ → Effect) (ns : List ℕ) (contents : Contents) → contents_after effects (gathered 0 parts ns) contents ≡ contents_after (as_a_whole parts effects) ns contents
after_gathered parts effects [] contents = refl
after_gathered parts effects (n ∷ ns) contents =
    after_append effects (parts_of parts n) (gathered 0 parts ns) contents ∙ after_gathered parts effects ns (as_a_whole parts effects n contents)

pub as_wholes : (records : List Files) (parts : List ℕ) → ArePartsOf records parts → (effects : ℕ → Effect) (contents : Contents) → contents_after effects (range_with_len 0 (length parts)) contents ≡ contents_after (as_a_whole parts effects) (range_with_len 0 (length records)) contents
as_wholes records parts are effects contents =
    ap (λ ns. contents_after effects ns contents) (all_gathered 0 (length records) parts are.of_commands are.rise) ∙ after_gathered parts effects (range_with_len 0 (length records)) contents
