-- Needs of needs.
use Rattle.std.proofs.Common.{◌≡◌, ℕ, zero, suc, ◌⊎◌, inl, inr, List, [], ◌∷◌, ◌++◌, true, ◌==◌, length, refl, sym, ap, subst, ◌∙◌, append_assoc}
use Rattle.std.proofs.lemmas.Bool.{false≢true, eq-eqb}
use Rattle.std.proofs.lemmas.List.Folds.{list_any-append}
use Rattle.command_files.specs.Order.{is_in, needs_at}
use Rattle.command_files.proofs.OrderLemmas.{in_either, in_first, in_second}
use Rattle.schedule_orders.specs.Closed.{with_theirs, closed_behind, closed}

-- a member of two lists is one of either
pub in_append : (xs ys : List ℕ) (m : ℕ) → is_in (xs ++ ys) m ≡ true → (is_in xs m ≡ true) ⊎ (is_in ys m ≡ true)
in_append xs ys m e =
    in_either (is_in xs m) (is_in ys m) (λ k. inl k) (λ k. inr k) (sym (list_any-append (λ j. j == m) xs ys) ∙ e)

pub in_front : (xs ys : List ℕ) (m : ℕ) → is_in xs m ≡ true → is_in (xs ++ ys) m ≡ true
in_front xs ys m e = list_any-append (λ j. j == m) xs ys ∙ in_first (is_in xs m) (is_in ys m) e

pub in_back : (xs ys : List ℕ) (m : ℕ) → is_in ys m ≡ true → is_in (xs ++ ys) m ≡ true
in_back xs ys m e = list_any-append (λ j. j == m) xs ys ∙ in_second (is_in xs m) (is_in ys m) e

-- what is needed through others
pub record Through (ns : List ℕ) (rows : List (List ℕ)) (m : ℕ) : Type 0 where
  pub other : ℕ
  pub needed : is_in ns other ≡ true
  pub needs : is_in (needs_at rows other) m ≡ true

through_more : (n m : ℕ) (ns : List ℕ) (rows : List (List ℕ)) → Through ns rows m → Through (n ∷ ns) rows m
through_more n m ns rows t = record { other = t.other; needed = in_second (n == t.other) (is_in ns t.other) t.needed; needs = t.needs }

theirs : (rows : List (List ℕ)) (ns : List ℕ) (m : ℕ) → is_in (with_theirs rows ns) m ≡ true → (is_in ns m ≡ true) ⊎ Through ns rows m
theirs rows [] m e = absurd (false≢true e)
theirs rows (n ∷ ns) m e =
    elim (in_append (n ∷ needs_at rows n) (with_theirs rows ns) m e) [
      | inl here ↦ in_either (n == m) (is_in (needs_at rows n) m)
          (λ k. inl (in_first (n == m) (is_in ns m) k))
          (λ k. inr (record { other = n; needed = in_first (n == n) (is_in ns n) (eq-eqb n n refl); needs = k })) here
      | inr later ↦
          elim (theirs rows ns m later) [
            | inl k ↦ inl (in_second (n == m) (is_in ns m) k)
            | inr t ↦ inr (through_more n m ns rows t)
          ]
    ]

-- what a row has it has with more rows behind
more_rows : (rows more : List (List ℕ)) (k m : ℕ) → is_in (needs_at rows k) m ≡ true → is_in (needs_at (rows ++ more) k) m ≡ true
more_rows [] more k m e = absurd (false≢true e)
more_rows (r ∷ rows) more zero m e = e
more_rows (r ∷ rows) more (suc k) m e = more_rows rows more k m e

through_rows : (ns : List ℕ) (rows more : List (List ℕ)) (m : ℕ) → Through ns rows m → Through ns (rows ++ more) m
through_rows ns rows more m t = record { other = t.other; needed = t.needed; needs = more_rows rows more t.other m t.needs }

closed_at : (done rest : List (List ℕ)) (j m : ℕ) → is_in (needs_at (closed_behind done rest) j) m ≡ true → (is_in (needs_at rest j) m ≡ true) ⊎ Through (needs_at rest j) (done ++ closed_behind done rest) m
closed_at done [] j m e = absurd (false≢true e)
closed_at done (ns ∷ rest) zero m e =
    elim (theirs done ns m e) [
      | inl k ↦ inl k
      | inr t ↦ inr (through_rows ns done (closed_behind done (ns ∷ rest)) m t)
    ]
closed_at done (ns ∷ rest) (suc j) m e =
    let row : List ℕ = with_theirs done ns in
    let same : (done ++ row ∷ []) ++ closed_behind (done ++ row ∷ []) rest ≡ done ++ closed_behind done (ns ∷ rest) = append_assoc done (row ∷ []) (closed_behind (done ++ row ∷ []) rest) in
    elim (closed_at (done ++ row ∷ []) rest j m e) [
      | inl k ↦ inl k
      | inr t ↦ inr (subst (λ rows. Through (needs_at rest j) rows m) same t)
    ]

-- all that a command needs is listed, or needed by what is listed
pub needed_through : (needs : List (List ℕ)) (n m : ℕ) → is_in (needs_at (closed needs) n) m ≡ true → (is_in (needs_at needs n) m ≡ true) ⊎ Through (needs_at needs n) (closed needs) m
needed_through needs n m e = closed_at [] needs n m e

among_theirs : (rows : List (List ℕ)) (ns : List ℕ) (m : ℕ) → is_in ns m ≡ true → is_in (with_theirs rows ns) m ≡ true
among_theirs rows [] m e = absurd (false≢true e)
among_theirs rows (n ∷ ns) m e =
    in_either (n == m) (is_in ns m)
    (λ k. in_front (n ∷ needs_at rows n) (with_theirs rows ns) m (in_first (n == m) (is_in (needs_at rows n) m) k))
    (λ k. in_back (n ∷ needs_at rows n) (with_theirs rows ns) m (among_theirs rows ns m k)) e

kept_at : (done rest : List (List ℕ)) (j m : ℕ) → is_in (needs_at rest j) m ≡ true → is_in (needs_at (closed_behind done rest) j) m ≡ true
kept_at done [] j m e = absurd (false≢true e)
kept_at done (ns ∷ rest) zero m e = among_theirs done ns m e
kept_at done (ns ∷ rest) (suc j) m e = kept_at (done ++ with_theirs done ns ∷ []) rest j m e

-- what is listed is needed
pub listed_needed : (needs : List (List ℕ)) (n m : ℕ) → is_in (needs_at needs n) m ≡ true → is_in (needs_at (closed needs) n) m ≡ true
listed_needed needs n m e = kept_at [] needs n m e

length-closed_behind : (done rest : List (List ℕ)) → length (closed_behind done rest) ≡ length rest
length-closed_behind done [] = refl
length-closed_behind done (ns ∷ rest) = ap suc (length-closed_behind (done ++ with_theirs done ns ∷ []) rest)

pub length-closed : (needs : List (List ℕ)) → length (closed needs) ≡ length needs
length-closed needs = length-closed_behind [] needs
