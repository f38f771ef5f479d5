-- What a snapshot that was taken by a test holds.
use Rattle.std.proofs.Common.{◌≡◌, inl, inr, ℕ, List, [], ◌∷◌, ◌++◌, append-nil, ◌||◌, Bool, true, false, cond, Option, Some, Result, Bor, IfOk, refl, ap, sym, ◌∙◌, subst, bytes_eq, arith}
use Rattle.std.specs.List.{list_any, find}
use Rattle.std.proofs.lemmas.Slice.Eq.{bytes_eq-Decides}
use Rattle.std.specs.declared.alloc.AllocError.{AllocError}
use Rattle.dry_runs.specs.declared.lookup.Lookup.{Lookup}
use Rattle.dry_runs.specs.declared.snapshot.Entry.{Entry}
use Rattle.dry_runs.specs.Candidates.{found_on}
use Rattle.dry_runs.specs.Snapshot.{taken, tried_by, Says, IsFirstThat, IsTaken, is_among, IsSnapshotOf, AnswersAs}

module _ (post : Bor (List ℕ) → Bool → Type 0) where
  -- the first path of which a test says yes is one of the paths
  among-more : (path : List ℕ) (paths : List (List ℕ)) (found : Option (List ℕ)) → is_among paths found ≡ true → is_among (path ∷ paths) found ≡ true
  among-more path paths found h = grind arith

  first-among : (paths : List (List ℕ)) (found : Option (List ℕ)) → IsFirstThat post paths found → is_among paths found ≡ true
  first-among [] found h = ap (is_among []) h
  first-among (path ∷ paths) found (inl here) = ap (is_among (path ∷ paths)) here.1 ∙ ap (λ b. b || list_any (bytes_eq path) paths) ((bytes_eq-Decides path path).1 refl)
  first-among (path ∷ paths) found (inr later) = among-more path paths found (first-among paths found later.1)

  pub taken-snapshot : (lookups : List Lookup) (entries : List Entry) → IsTaken post lookups entries → IsSnapshotOf lookups entries
  taken-snapshot [] [] h = tt
  taken-snapshot [] (e ∷ entries) h = absurd h
  taken-snapshot (l ∷ lookups) [] h = absurd h
  taken-snapshot (l ∷ lookups) (e ∷ entries) h = ((h.0.0, first-among (tried_by l) e.found h.0.1), taken-snapshot lookups entries h.1)

  -- the entries when no look-up is left
  pub taken-all : (lookups rest : List Lookup) (entries all : List Entry) → rest ≡ [] → all ≡ entries → ((more : List Entry) → IsTaken post rest more → IsTaken post lookups (entries ++ more)) → IsTaken post lookups all
  taken-all lookups rest entries all none same so_far =
      subst (IsTaken post lookups) (append-nil entries ∙ sym same) (so_far [] (subst (λ ls. IsTaken post ls []) (sym none) tt))

  -- where the test is a function, it is the first path that passes
  module _ (test : List ℕ → Bool) (acts : AnswersAs post test) where
    said : (path : List ℕ) (answer : Bool) → Says post path answer → answer ≡ test path
    said path answer (text, same, utf8, told) = acts text answer utf8 told ∙ ap test same

    first-found : (paths : List (List ℕ)) (found : Option (List ℕ)) → IsFirstThat post paths found → found ≡ find test paths
    first-found [] found h = h
    first-found (path ∷ paths) found (inl here) = here.1 ∙ ap (λ b. cond b (Some path) (find test paths)) (said path true here.0)
    first-found (path ∷ paths) found (inr later) = first-found paths found later.1 ∙ ap (λ b. cond b (Some path) (find test paths)) (said path false later.0)

    taken-exact : (lookups : List Lookup) (entries : List Entry) → IsTaken post lookups entries → entries ≡ taken (found_on test) lookups
    taken-exact [] [] h = refl
    taken-exact [] (e ∷ entries) h = absurd h
    taken-exact (l ∷ lookups) [] h = absurd h
    taken-exact (l ∷ lookups) (e ∷ entries) h =
        let found = first-found (tried_by l) e.found h.0.1 in
        λ i. record { lookup = h.0.0 i; found = found i } ∷ taken-exact lookups entries h.1 i

    pub exact-both : (asked lookups : List Lookup) (r : Result (List Entry) AllocError) → asked ≡ lookups → IfOk r (IsTaken post asked) → IfOk r (λ entries. entries ≡ taken (found_on test) lookups)
    exact-both asked lookups r same h = grind (arith, taken-exact)
