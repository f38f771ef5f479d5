-- Entries in ascending order of their keys, put into an empty map one after the other, are that map.
use Rattle.std.proofs.Common.{◌≡◌, List, [], ◌∷◌, ◌++◌, map, refl, ap, sym, subst, ◌∙◌, append_assoc, append-nil, Ordering, Less, arith}
use Rattle.std.specs.List.{fold, AllByRecursion}
use Rattle.std.specs.List.Sorted.{IsStrictlySortedBy}
use Rattle.std.specs.Cmp.{IsTotalOrder}
use Rattle.std.specs.BTreeMap.{insert_entry}
use Rattle.std.specs.Map.{keys_of}

-- keys that ascend as they are seen through a function
all-seen : {K J X : Type 0} (f : K → J) (P : J → Type 0) (es : List (K × X)) → AllByRecursion (λ k. P (f k)) (keys_of es) → AllByRecursion P (keys_of (map (λ e. (f e.0, e.1)) es))
all-seen f P [] h = tt
all-seen f P (e ∷ es) h = (h.0, all-seen f P es h.1)

pub sorted-seen : {K J X : Type 0} (f : K → J) (R : J → J → Ordering) (es : List (K × X)) → IsStrictlySortedBy (λ a b. R (f a) (f b)) (keys_of es) → IsStrictlySortedBy R (keys_of (map (λ e. (f e.0, e.1)) es))
unfolding IsStrictlySortedBy
sorted-seen f R [] h = tt
sorted-seen f R (e ∷ es) h = (all-seen f (λ y. R (f e.0) y ≡ Less) es h.0, sorted-seen f R es h.1)

module _ {J X : Type 0} (R : J → J → Ordering) (total : IsTotalOrder R) where
  -- what holds of all keys holds of one between others
  key-between : (P : J → Type 0) (es rest : List (J × X)) (e : J × X) → AllByRecursion P (keys_of (es ++ e ∷ rest)) → P e.0
  key-between P [] rest e h = h.0
  key-between P (d ∷ es) rest e h = key-between P es rest e h.1

  -- an entry above all others goes last
  insert-last : (es rest : List (J × X)) (k : J) (v : X) → IsStrictlySortedBy R (keys_of (es ++ (k, v) ∷ rest)) → insert_entry R es k v ≡ es ++ (k, v) ∷ []
  unfolding IsStrictlySortedBy
  insert-last [] rest k v s = refl
  insert-last (e ∷ es) rest k v s =
      let below : R e.0 k ≡ Less = key-between (λ y. R e.0 y ≡ Less) es rest (k, v) s.0 in
      grind (arith, (insert-last es rest k v s.1))

  pub fold-ascending : (done rest : List (J × X)) → IsStrictlySortedBy R (keys_of (done ++ rest)) → fold (λ es e. insert_entry R es e.0 e.1) done rest ≡ done ++ rest
  fold-ascending done [] s = sym (append-nil done)
  fold-ascending done (e ∷ rest) s =
      ap (λ es. fold (λ ds d. insert_entry R ds d.0 d.1) es rest) (insert-last done rest e.0 e.1 s) ∙ fold-ascending (done ++ e ∷ []) rest (subst (λ es. IsStrictlySortedBy R (keys_of es)) (sym (append_assoc done (e ∷ []) rest)) s) ∙ append_assoc done (e ∷ []) rest
