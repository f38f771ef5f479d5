-- The laws of asked look-ups and of snapshots: lists of look-ups, each once; reading a dry run by two look-ups that answer alike what
-- it asks for; and the first candidate.
use Rattle.std.proofs.Common.{◌≡◌, ℕ, ◌+◌, List, [], ◌∷◌, ◌++◌, ◌||◌, Bool, true, false, not, cond, Some, map, take, refl, ap, sym, ◌∙◌, subst, eqb, one-add, Decides, arith}
use Rattle.std.specs.List.{list_any, AllByRecursion, onto_first, position_or_len}
use Rattle.std.proofs.lemmas.Bool.{false≢true}
use Rattle.std.proofs.lemmas.Bool.Decides.{Decides-and, Decides-like}
use Rattle.std.proofs.lemmas.Slice.Eq.{bytes_eq-Decides}
use Rattle.texts.specs.Path.{is_absolute_path}
use Rattle.texts.specs.Results.{and_then}
use Rattle.compilers.specs.CommandLines.{CommandLine}
use Rattle.dry_runs.specs.DryRun.{LookUp, dry_run_of}
use Rattle.dry_runs.specs.Parsed.{found_commands, parsed_of, path_of, unless_bad}
use Rattle.dry_runs.specs.declared.lookup.Lookup.{Lookup}
use Rattle.dry_runs.specs.Lookup.{same_lookup, with_lookup, with_lookups}
use Rattle.dry_runs.specs.Asked.{lookup_in, lookups_in, asked_of, asked_of_both}
use Rattle.dry_runs.specs.Snapshot.{answer_in, taken}
use Rattle.dry_runs.specs.FirstDir.{first_folder_of, found_in}
use Rattle.dry_runs.specs.Candidates.{parts_of, in_part}
use Rattle.dry_runs.specs.LookupLaws.{Agree, AreOnce, ReadsAlike, SnapshotReads, AskedOnce, FirstFolderIsFirst}
use Rattle.dry_runs.proofs.ParsedLemmas.{parses-then-resolves, parsed-alike}

same-decides : (a b : Lookup) → Decides (same_lookup a b) (a ≡ b)
same-decides a b = grind (arith, Decides-like, Decides-and, bytes_eq-Decides)

or-true : (b : Bool) → (b || true) ≡ true
or-true b = grind arith

or-false : (a b : Bool) → (a || b) ≡ false → (a ≡ false) × (b ≡ false)
or-false a b h = grind (arith, false≢true)

-- whether a list has a look-up
abbrev has : List Lookup → Lookup → Bool
has known l = list_any (λ other. same_lookup other l) known

-- a fact of all look-ups of a list
module _ (P : Lookup → Type 0) where
  all-has : (l : Lookup) (known : List Lookup) → has known l ≡ true → AllByRecursion P known → P l
  all-has l [] h all = absurd (false≢true h)
  all-has l (k ∷ known) h all =
      elim (same_lookup k l) as (λ b. same_lookup k l ≡ b → (b || has known l) ≡ true → P l) [
        | true ↦ λ e more. subst P ((same-decides k l).0 e) all.0
        | false ↦ λ e more. all-has l known more all.1
      ] refl h

  all-front : (known : List Lookup) (l : Lookup) → AllByRecursion P (known ++ l ∷ []) → AllByRecursion P known × P l
  all-front [] l all = (tt, all.0)
  all-front (k ∷ known) l all = let rest = all-front known l all.1 in ((all.0, rest.0), rest.1)

  all-one : (known : List Lookup) (l : Lookup) → AllByRecursion P (with_lookup known l) → AllByRecursion P known × P l
  all-one known l all = grind (arith, all-has, all-front)

  -- what holds of each of the look-ups that are listed once holds of all that were put there
  all-listed : (known lookups : List Lookup) → AllByRecursion P (with_lookups known lookups) → AllByRecursion P known × AllByRecursion P lookups
  all-listed known [] all = (all, tt)
  all-listed known (l ∷ lookups) all = grind (arith, all-one, (all-listed (with_lookup known l) lookups all))

-- a list has each of its look-ups
module _ {P Q : Lookup → Type 0} (f : (l : Lookup) → P l → Q l) where
  all-map : (lookups : List Lookup) → AllByRecursion P lookups → AllByRecursion Q lookups
  all-map [] all = tt
  all-map (l ∷ lookups) all = (f l all.0, all-map lookups all.1)

has-each : (lookups : List Lookup) → AllByRecursion (λ l. has lookups l ≡ true) lookups
has-each [] = tt
has-each (l ∷ lookups) = grind (arith, same-decides, all-map, or-true, (has-each lookups))

-- a list that has no look-up twice has none twice with one more that it lacks
none-more : (l : Lookup) (known : List Lookup) (x : Lookup) → list_any (same_lookup l) known ≡ false → same_lookup l x ≡ false → list_any (same_lookup l) (known ++ x ∷ []) ≡ false
none-more l [] x h e = ap (λ b. b || false) e
none-more l (k ∷ known) x h e = let parts = or-false (same_lookup l k) (list_any (same_lookup l) known) h in ap (λ b. b || list_any (same_lookup l) (known ++ x ∷ [])) parts.0 ∙ none-more l known x parts.1 e

once-more : (known : List Lookup) (x : Lookup) → AreOnce known → has known x ≡ false → AreOnce (known ++ x ∷ [])
once-more [] x once h = (refl, tt)
once-more (k ∷ known) x once h = let parts = or-false (same_lookup k x) (has known x) h in (none-more k known x once.0 parts.0, once-more known x once.1 parts.1)

once-listed : (known lookups : List Lookup) → AreOnce known → AreOnce (with_lookups known lookups)
once-listed known [] once = once
once-listed known (l ∷ lookups) once = once-listed (with_lookup known l) lookups ((grind (arith, once-more)))

module _ (f g : LookUp) (folder : List ℕ) where
  found-alike : (path : List ℕ) (commands : List CommandLine) → Agree f g (map (lookup_in path folder) commands) → found_commands f folder path commands ≡ found_commands g folder path commands
  found-alike path [] agree = refl
  found-alike path (c ∷ cs) agree = grind (arith, (found-alike path cs agree.1))

  -- the look-ups of a run don't depend on its number
  asked-alike : (run other : ℕ) (bytes : List ℕ) → lookups_in folder (parsed_of run bytes) ≡ lookups_in folder (parsed_of other bytes)
  asked-alike run other bytes = grind (arith, parsed-alike)

  said-alike : (run other : ℕ) (bytes : List ℕ) → Agree f g (lookups_in folder (parsed_of other bytes)) → dry_run_of run bytes folder f ≡ dry_run_of run bytes folder g
  said-alike run other bytes agree =
      let parsed = parsed_of run bytes in
      let agrees = subst (Agree f g) (asked-alike other run bytes) agree in
      sym (parses-then-resolves run bytes folder f)
      ∙ ap (λ found. and_then found (λ commands. unless_bad commands parsed.env parsed.fault)) (found-alike (path_of parsed.env) parsed.commands agrees)
      ∙ parses-then-resolves run bytes folder g

-- whether two look-ups answer one alike
abbrev Alike : LookUp → LookUp → Lookup → Type 0
Alike f g l = f l.program l.path l.folder ≡ g l.program l.path l.folder

pub reads-alike : ReadsAlike
reads-alike run bytes folder f g agree = said-alike f g folder run 1 bytes (all-listed (Alike f g) [] (lookups_in folder (parsed_of 1 bytes)) agree).1

-- entries answer their look-ups as they were taken
answer-taken : (which : LookUp) (lookups : List Lookup) (l : Lookup) → has lookups l ≡ true → Alike (answer_in (taken which lookups)) which l
answer-taken which [] l h = cc
answer-taken which (k ∷ lookups) l h =
    elim (same_lookup k l)
    as (λ b. same_lookup k l ≡ b → (b || has lookups l) ≡ true → cond b (which k.program k.path k.folder) (answer_in (taken which lookups) l.program l.path l.folder) ≡ which l.program l.path l.folder) [
      | true ↦ λ e more. ap (λ (x : Lookup). which x.program x.path x.folder) ((same-decides k l).0 e)
      | false ↦ λ e more. answer-taken which lookups l more
    ] refl h

taken-agrees : (which : LookUp) (lookups : List Lookup) → Agree (answer_in (taken which lookups)) which lookups
taken-agrees which lookups = all-map (λ l h. answer-taken which lookups l h) lookups (has-each lookups)

pub snapshot-reads : SnapshotReads
snapshot-reads first second folder which run =
    let answer : LookUp = answer_in (taken which (asked_of_both first second folder)) in
    let both = all-listed (Alike answer which) (asked_of first folder) (lookups_in folder (parsed_of 2 second)) (taken-agrees which (asked_of_both first second folder)) in
    (reads-alike run first folder answer which both.0, said-alike answer which folder run 2 second both.1)

pub asked-once : AskedOnce
asked-once first second folder = once-listed (asked_of first folder) (lookups_in folder (parsed_of 2 second)) (once-listed [] (lookups_in folder (parsed_of 1 first)) tt)

-- the first part of a `PATH` is its first folder
parts-first : (path : List ℕ) → (rest : List (List ℕ)) × (parts_of path ≡ first_folder_of path ∷ rest)
parts-first [] = ([], refl)
parts-first (c ∷ path) =
    let (rest, same) = parts-first path in
    elim (eqb c 58)
    as (λ b. (more : List (List ℕ)) × (cond b ([] ∷ parts_of path) (onto_first c (parts_of path)) ≡ take (cond (not b) (1 + position_or_len (λ x. eqb x 58) path) 0) (c ∷ path) ∷ more)) [
      | true ↦ (parts_of path, refl)
      | false ↦ (rest, ap (onto_first c) same ∙ ap (λ n. take n (c ∷ path) ∷ rest) (sym (one-add (position_or_len (λ x. eqb x 58) path))))
    ]

absolute-first : (program folder part : List ℕ) → is_absolute_path part ≡ true → found_in part program ≡ Some (in_part program folder part)
absolute-first program folder part h = grind (arith, false≢true)

or-first : (a : Bool) → (a || false) ≡ true → a ≡ true
or-first a h = grind arith

pub first-folder_is_first : FirstFolderIsFirst
first-folder_is_first program path folder h =
    let (rest, same) = parts-first path in
    grind (arith, absolute-first, or-first)
