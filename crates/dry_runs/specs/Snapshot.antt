-- Look-ups with what they found.
use Rattle.std.specs.Prelude.{◌≡◌, ◌⊎◌, ℕ, List, [], ◌∷◌, Bool, true, false, Option, Some, None, map, if◌then◌else◌, IsUtf8, bytes_eq}
use Rattle.std.specs.Borrow.{Bor}
use Rattle.std.specs.List.{AllZip, list_any}
use Rattle.dry_runs.specs.DryRun.{LookUp}
use Rattle.dry_runs.specs.declared.lookup.Lookup.{Lookup}
use Rattle.dry_runs.specs.declared.snapshot.Entry.{Entry}
use Rattle.dry_runs.specs.Lookup.{lookup_of, same_lookup}
use Rattle.dry_runs.specs.Candidates.{candidates_of}

-- what entries answer a look-up: what the first one of it found, and nothing where there is none
abbrev pub answer_in : List Entry → LookUp
answer_in [] program path folder = None
answer_in (e ∷ es) program path folder = if same_lookup e.lookup (lookup_of program path folder) then e.found else answer_in es program path folder

-- the entries that are taken of look-ups, when each is answered by a function
abbrev pub taken : LookUp → List Lookup → List Entry
taken which lookups = map (λ l. record { lookup = l; found = which l.program l.path l.folder }) lookups

-- the paths of a look-up
abbrev pub tried_by : Lookup → List (List ℕ)
tried_by l = candidates_of l.program l.path l.folder

-- a test, which need be no function, can answer this of a path
abbrev pub Says : (Bor (List ℕ) → Bool → Type 0) → List ℕ → Bool → Type 0
Says post path answer = (text : Bor (List ℕ)) × (text.now ≡ path) × IsUtf8 text.now × post text answer

-- what was found is the first path of which a test said yes: of those before it it said no, of those behind it nothing
abbrev pub IsFirstThat : (Bor (List ℕ) → Bool → Type 0) → List (List ℕ) → Option (List ℕ) → Type 0
IsFirstThat post [] found = found ≡ None
IsFirstThat post (path ∷ paths) found = (Says post path true × (found ≡ Some path)) ⊎ (Says post path false × IsFirstThat post paths found)

-- the entries are those of look-ups, in order, each answered by the first of its paths of which a test said yes
abbrev pub IsTaken : (Bor (List ℕ) → Bool → Type 0) → List Lookup → List Entry → Type 0
IsTaken post lookups entries = AllZip (λ l e. (e.lookup ≡ l) × IsFirstThat post (tried_by l) e.found) lookups entries

-- what was found, if anything, is one of some paths
abbrev pub is_among : List (List ℕ) → Option (List ℕ) → Bool
is_among paths None = true
is_among paths (Some path) = list_any (bytes_eq path) paths

-- the entries are those of look-ups, in order, and what was found is one of the paths of its look-up
abbrev pub IsSnapshotOf : List Lookup → List Entry → Type 0
IsSnapshotOf lookups entries = AllZip (λ l e. (e.lookup ≡ l) × (is_among (tried_by l) e.found ≡ true)) lookups entries

-- what a closure can answer of a text is what a test says of it
abbrev pub AnswersAs : (Bor (List ℕ) → Bool → Type 0) → (List ℕ → Bool) → Type 0
AnswersAs post test = (text : Bor (List ℕ)) (answer : Bool) → IsUtf8 text.now → post text answer → answer ≡ test text.now
