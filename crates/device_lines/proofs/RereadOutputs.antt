-- Outputs under a key: once it is recorded last, those recorded under it before don't count.
use Rattle.std.proofs.Common.{◌≡◌, ℕ, List, [], ◌∷◌, ◌++◌, Bool, true, false, not, Some, None, refl, ap, sym, ◌∙◌, subst, filter, bytes_eq, Ordering, Less, Equal, Greater, arith}
use Rattle.std.specs.List.{AllByRecursion, fold}
use Rattle.std.specs.BTreeMap.{insert_entry}
use Rattle.std.specs.Ordering.{nat_cmp, ordering_reverse, is_eq}
use Rattle.std.specs.Cmp.{IsTotalOrder}
use Rattle.std.specs.Cmp.Lexicographic.{slice_cmp}
use Rattle.std.proofs.lemmas.Bool.{false≢true}
use Rattle.std.proofs.lemmas.Cmp.{tied_itself, nat_list_cmp_total}
use Rattle.std.proofs.lemmas.List.Sums.{fold-append}
use Rattle.std.proofs.lemmas.Map.Lookups.{exact_bytes}
use Rattle.std.proofs.lemmas.Map.Text.{is_eq-slice_cmp}
use Rattle.std.proofs.lemmas.Slice.Eq.{bytes_eq-Decides}
use Rattle.compilers.specs.Outputs.{with_entry, entries_from, entry_at}

module _ {K : Type 0} (R : K → K → Ordering) (total : IsTotalOrder R) where
  above : (x y : K) → R x y ≡ Less → R y x ≡ Greater
  above x y h = total.antisymm y x ∙ ap ordering_reverse h

  below : (x y : K) → R x y ≡ Greater → R y x ≡ Less
  below x y h = total.antisymm y x ∙ ap ordering_reverse h

module _ {K X : Type 0} (R : K → K → Ordering) (total : IsTotalOrder R) where
  -- a later entry of the same key counts
  overwritten : (es : List (K × X)) (k : K) (v w : X) → insert_entry R (insert_entry R es k v) k w ≡ insert_entry R es k w
  overwritten [] k v w = rw (tied_itself total k) refl
  overwritten (e ∷ es) k v w = grind (arith, tied_itself, (overwritten es k v w))

  -- entries of different keys may be recorded in either order
  swapped : (es : List (K × X)) (k l : K) (v w : X) → R k l ≡ Less → insert_entry R (insert_entry R es k v) l w ≡ insert_entry R (insert_entry R es l w) k v
  swapped [] k l v w h = rw (h, above R total k l h) refl
  swapped (e ∷ es) k l v w h = grind (arith, above, below, (swapped es k l v w h))

  apart : (es : List (K × X)) (k l : K) (v w : X) → (R k l ≡ Equal → ⊥) → insert_entry R (insert_entry R es k v) l w ≡ insert_entry R (insert_entry R es l w) k v
  apart es k l v w other = grind (arith, swapped, below)

-- the order of keys
abbrev keys : List ℕ → List ℕ → Ordering
keys = slice_cmp nat_cmp

same_key : (k : List ℕ) → bytes_eq k k ≡ true
same_key k = (bytes_eq-Decides k k).1 refl

equal_key : (k l : List ℕ) → bytes_eq k l ≡ true → k ≡ l
equal_key k l h = (bytes_eq-Decides k l).0 h

by_order : (k l : List ℕ) (o : Ordering) → keys k l ≡ o → bytes_eq k l ≡ is_eq o
by_order k l o h = sym (is_eq-slice_cmp k l) ∙ ap is_eq h

not_key : (key k : List ℕ) → bytes_eq key k ≡ false → keys key k ≡ Equal → ⊥
not_key key k h e = false≢true (sym h ∙ by_order key k Equal e)

module _ {X : Type 0} (key : List ℕ) where
  -- an entry of another key
  abbrev pub IsOther : List ℕ × X → Type 0
  IsOther e = bytes_eq key e.0 ≡ false

  abbrev pub is_other : List ℕ × X → Bool
  is_other e = not (bytes_eq key e.0)

  -- what stands under the key after one more entry
  found-same : (es : List (List ℕ × X)) (v : X) → entry_at key (insert_entry keys es key v) ≡ Some v
  found-same [] v = rw (same_key key) refl
  found-same (e ∷ es) v = grind (arith, same_key, by_order, (found-same es v))

  found-other : (es : List (List ℕ × X)) (k : List ℕ) (v : X) → bytes_eq key k ≡ false → entry_at key (insert_entry keys es k v) ≡ entry_at key es
  found-other [] k v other = rw other refl
  found-other (e ∷ es) k v other = grind (arith, (exact_bytes k e.0), (found-other es k v other))

  -- an entry of the key before entries of other keys doesn't count once the key is recorded last
  early : (es : List (List ℕ × X)) (y x : X) (fs : List (List ℕ × X)) → AllByRecursion IsOther fs → with_entry (fold with_entry (insert_entry keys es key y) fs) (key, x) ≡ with_entry (fold with_entry es fs) (key, x)
  early es y x [] h = overwritten keys nat_list_cmp_total es key y x
  early es y x (f ∷ fs) h = grind (arith, apart, nat_list_cmp_total, not_key, (early (with_entry es f) y x fs h.1))

  pub all-other : (ds : List (List ℕ × X)) → AllByRecursion IsOther (filter is_other ds)
  all-other [] = tt
  all-other (a ∷ ds) = grind (arith, (all-other ds))

  others-suffice : (es ds : List (List ℕ × X)) (x : X) → with_entry (fold with_entry es ds) (key, x) ≡ with_entry (fold with_entry es (filter is_other ds)) (key, x)
  others-suffice es [] x = refl
  others-suffice es (a ∷ ds) x = grind (arith, (equal_key key a.0), (early es a.1 x (filter is_other ds) (all-other ds)), (others-suffice (with_entry es a) ds x))

  -- recording again what stands under the key changes nothing
  abbrev Settled : List (List ℕ × X) → Type 0
  Settled es = (x : X) → entry_at key es ≡ Some x → with_entry es (key, x) ≡ es

  one-settled : (es : List (List ℕ × X)) (a : List ℕ × X) → Settled es → Settled (with_entry es a)
  one-settled es a settled x at = grind (arith, equal_key, found-same, overwritten, nat_list_cmp_total, apart, not_key, found-other)

  all-settled : (es ds : List (List ℕ × X)) → Settled es → Settled (fold with_entry es ds)
  all-settled es [] settled = settled
  all-settled es (a ∷ ds) settled = all-settled (with_entry es a) ds (one-settled es a settled)

  -- entries of other keys leave what stands under the key
  found-past : (es ms : List (List ℕ × X)) → AllByRecursion IsOther ms → entry_at key (fold with_entry es ms) ≡ entry_at key es
  found-past es [] h = refl
  found-past es (m ∷ ms) h = found-past (with_entry es m) ms h.1 ∙ found-other es m.0 m.1 h.0

  -- what is so of all values under the key is so of the one that is found
  found-all : (P : X → Type 0) (es ds : List (List ℕ × X)) → AllByRecursion (λ a. bytes_eq key a.0 ≡ true → P a.1) ds → ((x : X) → entry_at key es ≡ Some x → P x) → (x : X) → entry_at key (fold with_entry es ds) ≡ Some x → P x
  found-all P es [] h before = before
  found-all P es (a ∷ ds) h before =
      found-all P (with_entry es a) ds h.1 (λ x at. elim (bytes_eq key a.0) as (λ t. bytes_eq key a.0 ≡ t → P x) [
        | true ↦ λ e.
            let found : Some a.1 ≡ Some x = sym (found-same es a.1) ∙ (ap (λ k. entry_at key (insert_entry keys es k a.1)) (equal_key key a.0 e) ∙ at) in
            let value : a.1 ≡ x = cc in
            subst P value (h.0 e)
        | false ↦ λ e. before x (sym (found-other es a.0 a.1 e) ∙ at)
      ] refl)

  -- the value under the key of a list of entries with entries of other keys after it
  pub value-from : (P : X → Type 0) (ds ms : List (List ℕ × X)) (x : X) → AllByRecursion (λ a. bytes_eq key a.0 ≡ true → P a.1) ds → AllByRecursion IsOther ms → entry_at key (entries_from (ds ++ ms)) ≡ Some x → P x
  value-from P ds ms x h others at = grind (arith, found-past, fold-append, found-all)

  -- the entries of other keys, then the value under the key, and then the entries after it make the same entries
  pub same-entries : (ds ms : List (List ℕ × X)) (x : X) → AllByRecursion IsOther ms → entry_at key (entries_from (ds ++ ms)) ≡ Some x → entries_from ((filter is_other ds ++ (key, x) ∷ []) ++ ms) ≡ entries_from (ds ++ ms)
  same-entries ds ms x others at =
      let found : entry_at key (fold with_entry [] ds) ≡ Some x = sym (found-past (fold with_entry [] ds) ms others) ∙ (ap (entry_at key) (sym (fold-append with_entry [] ds ms)) ∙ at) in
      let settled : with_entry (fold with_entry [] ds) (key, x) ≡ fold with_entry [] ds = all-settled [] ds (λ y none. let e : None ≡ Some y = none in cc) x found in
      grind (arith, fold-append, others-suffice)
