-- What is claimed of asked look-ups and of snapshots, for all texts and look-ups; and what some dry runs ask for, worked out by hand.
use Rattle.std.specs.Prelude.{◌≡◌, ℕ, List, [], ◌∷◌, ◌||◌, not, true, false, codes}
use Rattle.std.specs.Bool.{⊤}
use Rattle.std.specs.List.{AllByRecursion, list_any}
use Rattle.texts.specs.Lists.{first_word}
use Rattle.texts.specs.Path.{is_absolute_path, is_bare}
use Rattle.dry_runs.specs.DryRun.{LookUp, dry_run_of}
use Rattle.dry_runs.specs.FirstDir.{first_dir, first_folder_of}
use Rattle.dry_runs.specs.declared.lookup.Lookup.{Lookup}
use Rattle.dry_runs.specs.Lookup.{lookup_of, same_lookup}
use Rattle.dry_runs.specs.Asked.{asked_of, asked_of_both}
use Rattle.dry_runs.specs.Candidates.{candidates_of}
use Rattle.dry_runs.specs.Snapshot.{answer_in, taken}

-- two functions answer each of some look-ups alike
abbrev pub Agree : LookUp → LookUp → List Lookup → Type 0
Agree f g lookups = AllByRecursion (λ l. f l.program l.path l.folder ≡ g l.program l.path l.folder) lookups

-- look-ups that answer alike what a dry run asks for read it alike
abbrev pub ReadsAlike : Type 0
ReadsAlike = (run : ℕ) (bytes folder : List ℕ) (f g : LookUp) → Agree f g (asked_of bytes folder) → dry_run_of run bytes folder f ≡ dry_run_of run bytes folder g

-- the entries that a look-up gives for what two dry runs ask for read both as the look-up itself does
abbrev pub SnapshotReads : Type 0
SnapshotReads = (first second folder : List ℕ) (which : LookUp) (run : ℕ) →
    let answer : LookUp = answer_in (taken which (asked_of_both first second folder)) in
    (dry_run_of run first folder answer ≡ dry_run_of run first folder which) × (dry_run_of run second folder answer ≡ dry_run_of run second folder which)

-- no look-up of a list stands in it again
abbrev pub AreOnce : List Lookup → Type 0
AreOnce [] = ⊤
AreOnce (l ∷ ls) = (list_any (same_lookup l) ls ≡ false) × AreOnce ls

abbrev pub AskedOnce : Type 0
AskedOnce = (first second folder : List ℕ) → AreOnce (asked_of_both first second folder)

-- where the first folder of `PATH` is an absolute path, the look-up that looks at no file answers the first candidate; so
-- it does of a name with a `/`
abbrev pub FirstFolderIsFirst : Type 0
FirstFolderIsFirst =
    (program path folder : List ℕ) → (is_absolute_path (first_folder_of path) || not (is_bare program)) ≡ true → first_dir program path folder ≡ first_word (candidates_of program path folder)

-- a look-up from the folder `/w`
abbrev pub from_w : List ℕ → List ℕ → Lookup
from_w program path = lookup_of program path (codes "/w")

-- programs in order of first ask, each once, by the first value of `PATH`
abbrev pub AskedInOrder : Type 0
AskedInOrder =
    asked_of (codes "#$ PATH=/a:/b\n#$ cicc x\n#$ PATH=/c\n#$ ./gcc y\n#$ cicc z\n") (codes "/w") ≡ from_w (codes "cicc") (codes "/a:/b") ∷ from_w (codes "./gcc") (codes "/a:/b") ∷ []

-- a program's name is that of the expanded line, and no unmarked line asks for one
abbrev pub AskedExpanded : Type 0
AskedExpanded =
    asked_of (codes "nvcc warning\n#$ PATH=\n#$ TOP=/t\n#$ $TOP/ptxas x\n#$ \"a b\" y\n") (codes "/w") ≡ from_w (codes "/t/ptxas") [] ∷ from_w (codes "a b") [] ∷ []

-- a line that is bad whatever is found ends the list: an open quote, no word, no `PATH`, or no text
abbrev pub AskedBeforeABadLine : Type 0
AskedBeforeABadLine =
    (asked_of (codes "#$ PATH=/a\n#$ cicc\n#$ 'open\n#$ ptxas\n") (codes "/w") ≡ from_w (codes "cicc") (codes "/a") ∷ []) × (asked_of (codes "#$ PATH=/a\n#$ cicc\n#$  \n#$ ptxas\n") (codes "/w") ≡ from_w (codes "cicc") (codes "/a") ∷ [])
    × (asked_of (codes "#$ cicc\n#$ PATH=/a\n#$ ptxas\n") (codes "/w") ≡ []) × (asked_of (255 ∷ codes "\n#$ PATH=/a\n#$ ptxas\n") (codes "/w") ≡ [])

-- what two dry runs ask for, one behind the other; the same program by another `PATH` is another look-up
abbrev pub AskedByBoth : Type 0
AskedByBoth =
    asked_of_both (codes "#$ PATH=/a\n#$ cicc\n") (codes "#$ PATH=/a\n#$ gcc\n#$ cicc\n") (codes "/w") ≡ from_w (codes "cicc") (codes "/a") ∷ from_w (codes "gcc") (codes "/a") ∷ []

abbrev pub AskedByAnotherPath : Type 0
AskedByAnotherPath =
    asked_of_both (codes "#$ PATH=/a\n#$ cicc\n") (codes "#$ PATH=/b\n#$ cicc\n") (codes "/w") ≡ from_w (codes "cicc") (codes "/a") ∷ from_w (codes "cicc") (codes "/b") ∷ []
