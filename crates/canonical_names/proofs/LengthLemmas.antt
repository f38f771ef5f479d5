-- References replaced by the lengths of their names: the longest that stand in a text, then those next to them.
use Rattle.std.proofs.Common.{◌≡◌, ℕ, ◌-◌, ◌<◌, ◌≤◌, ◌++◌, true, false, not, List, [], ◌∷◌, refl, ap, ◌∙◌, nat_le, length, fold, filter, arith}
use Rattle.std.specs.List.{AllByRecursion}
use Rattle.compilers.specs.Replacing.{replaced}
use Rattle.canonical_names.specs.Alike.{holds}
use Rattle.canonical_names.specs.Counted.{old_names}
use Rattle.canonical_names.specs.References.{replaced_by_all, longest_pairs_first, replaced_by_length, longer, longest_in}
use Rattle.canonical_names.proofs.DotLemmas.{held-short}
use Rattle.canonical_names.specs.Renaming.{insert_by}
use Rattle.canonical_names.proofs.RewriteLemmas.{insert-each, fold-each, replaced-none}

abbrev Pair : Type 0
Pair = List ℕ × List ℕ

abbrev size : Pair → ℕ
size p = length p.0

-- the pairs whose names have at most so many bytes, and the others
abbrev pub up_to : ℕ → List Pair → List Pair
up_to m ps = filter (λ p. nat_le (length p.0) m) ps

abbrev pub over : ℕ → List Pair → List Pair
over m ps = filter (λ p. not (nat_le (length p.0) m)) ps

-- the order falls into the longer ones and the shorter ones
module _ (m : ℕ) where
  insert-long : (p : Pair) → m < length p.0 → (longs shorts : List Pair) → AllByRecursion (λ q. length q.0 ≤ m) shorts → insert_by size (longs ++ shorts) p ≡ insert_by size longs p ++ shorts
  insert-long p long [] [] all = refl
  insert-long p long [] (q ∷ qs) all = grind arith
  insert-long p long (q ∷ qs) shorts all = grind (arith, (insert-long p long qs shorts all))

  insert-short : (p : Pair) → length p.0 ≤ m → (longs shorts : List Pair) → AllByRecursion (λ q. m < length q.0) longs → insert_by size (longs ++ shorts) p ≡ longs ++ insert_by size shorts p
  insert-short p short [] shorts all = refl
  insert-short p short (q ∷ qs) shorts all = grind (arith, (insert-short p short qs shorts all.1))

  fold-cut : (ps longs shorts : List Pair) → AllByRecursion (λ q. m < length q.0) longs → AllByRecursion (λ q. length q.0 ≤ m) shorts →
      fold (insert_by size) (longs ++ shorts) ps ≡ fold (insert_by size) longs (over m ps) ++ fold (insert_by size) shorts (up_to m ps)
  fold-cut [] longs shorts long short = refl
  fold-cut (p ∷ ps) longs shorts long short =
      let short-each = insert-each size (λ q. length q.0 ≤ m) shorts p short in
      let long-each = insert-each size (λ q. m < length q.0) longs p long in
      let later = fold-cut ps longs (insert_by size shorts p) long in
      grind (arith, insert-short, insert-long, short-each, long-each, later, (fold-cut ps (insert_by size longs p) shorts))

-- one after the other
replaced-append : (xs ys : List Pair) (text : List ℕ) → replaced_by_all (xs ++ ys) text ≡ replaced_by_all ys (replaced_by_all xs text)
replaced-append [] ys text = refl
replaced-append (x ∷ xs) ys text = replaced-append xs ys (replaced x.0 x.1 text)

nowhere : (text : List ℕ) (ps : List Pair) → AllByRecursion (λ p. holds p.0 text ≡ false) ps → replaced_by_all ps text ≡ text
nowhere text [] all = refl
nowhere text (p ∷ ps) all = ap (replaced_by_all ps) (replaced-none p.0 p.1 text all.0) ∙ nowhere text ps all.1

-- what all pairs make of a text, the longer ones first
cut-by : (m : ℕ) (ps : List Pair) (text : List ℕ) → replaced_by_all (longest_pairs_first ps) text ≡ replaced_by_all (longest_pairs_first (up_to m ps)) (replaced_by_all (longest_pairs_first (over m ps)) text)
cut-by m ps text = ap (λ qs. replaced_by_all qs text) (fold-cut m ps [] [] tt tt) ∙ replaced-append (longest_pairs_first (over m ps)) (longest_pairs_first (up_to m ps)) text

cut-none : (m : ℕ) (ps : List Pair) (text : List ℕ) → AllByRecursion (λ p. holds p.0 text ≡ false) (over m ps) → replaced_by_all (longest_pairs_first ps) text ≡ replaced_by_all (longest_pairs_first (up_to m ps)) text
cut-none m ps text none = cut-by m ps text ∙ ap (replaced_by_all (longest_pairs_first (up_to m ps))) (nowhere text (longest_pairs_first (over m ps)) (fold-each size (λ p. holds p.0 text ≡ false) (over m ps) [] none tt))

up_to-less : (k m : ℕ) → k ≤ m → (ps : List Pair) → up_to k (up_to m ps) ≡ up_to k ps
up_to-less k m le [] = refl
up_to-less k m le (p ∷ ps) = grind (arith, (up_to-less k m le ps))

-- names that are longer than a text don't stand in it
pub longest-begun : (ps : List Pair) (text : List ℕ) → replaced_by_all (longest_pairs_first ps) text ≡ replaced_by_all (longest_pairs_first (up_to (length text) ps)) text
longest-begun ps text = cut-none (length text) ps text (too-long ps) where
  too-long : (ps : List Pair) → AllByRecursion (λ p. holds p.0 text ≡ false) (over (length text) ps)
  too-long [] = tt
  too-long (p ∷ ps) = grind (arith, held-short, (too-long ps))

-- what the search for the longest name tells
module _ (text : List ℕ) (m : ℕ) where
  pub longer-least : (best : ℕ) (n : List ℕ) → nat_le (length n) m ≡ true → holds n text ≡ true → length n ≤ longer text m best n
  longer-least best n le held = grind arith

  pub fold-more : (names : List (List ℕ)) (best : ℕ) → best ≤ fold (longer text m) best names
  fold-more [] best = omega arith
  fold-more (n ∷ names) best = grind (arith, (fold-more names (longer text m best n)))

  fold-bound : (names : List (List ℕ)) (best : ℕ) → best ≤ m → fold (longer text m) best names ≤ m
  fold-bound [] best le = le
  fold-bound (n ∷ names) best le = fold-bound names (longer text m best n) ((grind arith))

  pub longest-bound : (names : List (List ℕ)) → longest_in text m names ≤ m
  longest-bound names = fold-bound names 0 (omega arith)

  none-over : (k : ℕ) (ps : List Pair) (best : ℕ) → fold (longer text m) best (old_names ps) ≤ k → AllByRecursion (λ p. holds p.0 text ≡ false) (over k (up_to m ps))
  none-over k [] best le = tt
  none-over k (p ∷ ps) best le =
      grind (arith, longer-least, fold-more, (none-over k ps (longer text m best p.0) le))

  pub longest-next : (ps : List Pair) → replaced_by_all (longest_pairs_first (up_to m ps)) text ≡ replaced_by_all (longest_pairs_first (up_to (longest_in text m (old_names ps)) ps)) text
  longest-next ps =
      let k = longest_in text m (old_names ps) in
      cut-none k (up_to m ps) text (none-over k ps 0 (omega arith)) ∙ ap (λ qs. replaced_by_all (longest_pairs_first qs) text) (up_to-less k m (longest-bound (old_names ps)) ps)

-- those of one length
equal-last : (k : ℕ) (p : Pair) → length p.0 ≡ k → (done : List Pair) → AllByRecursion (λ q. length q.0 ≡ k) done → insert_by size done p ≡ done ++ p ∷ []
equal-last k p is [] all = refl
equal-last k p is (q ∷ qs) all = grind (arith, (equal-last k p is qs all.1))

with-last : (k : ℕ) (p : Pair) → length p.0 ≡ k → (done : List Pair) →
    AllByRecursion (λ q. length q.0 ≡ k) done → AllByRecursion (λ q. length q.0 ≡ k) (done ++ p ∷ [])
with-last k p same [] all = (same, tt)
with-last k p same (q ∷ qs) all = (all.0, with-last k p same qs all.1)

module _ (k : ℕ) (some : 0 < k) where
  -- a pair among those of at most k bytes and over k - 1 is one of k bytes
  of-length : (ps done : List Pair) (text : List ℕ) → AllByRecursion (λ q. length q.0 ≡ k) done →
      replaced_by_all (fold (insert_by size) done (over (k - 1) (up_to k ps))) text ≡ replaced_by_length k ps (replaced_by_all done text)
  of-length [] done text all = refl
  of-length (p ∷ ps) done text all =
      grind (arith, equal-last, with-last, replaced-append, (of-length ps done text all), (of-length ps (done ++ p ∷ []) text))

  pub longest-replaced : (ps : List Pair) (text : List ℕ) → replaced_by_all (longest_pairs_first (up_to k ps)) text ≡ replaced_by_all (longest_pairs_first (up_to (k - 1) ps)) (replaced_by_length k ps text)
  longest-replaced ps text =
      cut-by (k - 1) (up_to k ps) text
      ∙ ap (replaced_by_all (longest_pairs_first (up_to (k - 1) (up_to k ps)))) (of-length ps [] text tt)
      ∙ ap (λ qs. replaced_by_all (longest_pairs_first qs) (replaced_by_length k ps text)) (up_to-less (k - 1) k (omega arith) ps)

-- no name is empty
pub longest-done : (ps : List Pair) (text : List ℕ) → AllByRecursion (λ p. 0 < length p.0) ps → replaced_by_all (longest_pairs_first (up_to 0 ps)) text ≡ text
longest-done ps text some = ap (λ qs. replaced_by_all (longest_pairs_first qs) text) (none ps some) where
  none : (ps : List Pair) → AllByRecursion (λ p. 0 < length p.0) ps → up_to 0 ps ≡ []
  none [] some = refl
  none (p ∷ ps) some = grind (arith, (none ps some.1))
