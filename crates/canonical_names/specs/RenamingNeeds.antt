-- The laws of renaming, each without one of its premises. None of these holds.
use Rattle.std.specs.Prelude.{◌≡◌, ℕ, List, true, map, Contains}
use Rattle.texts.specs.Path.{folder_of}
use Rattle.compilers.specs.CommandLines.{CommandLine}
use Rattle.canonical_names.specs.Alike.{is_clean, command_through, Alike}
use Rattle.canonical_names.specs.CanonicalNames.{AreSuffixes}
use Rattle.canonical_names.specs.Generated.{class_of_name}
use Rattle.canonical_names.specs.Renaming.{names_of_run, renamed}

-- two runs are alike by a map of names that needn't be one-to-one, or that needn't keep folders
abbrev pub AlikeByAnyMap : List (List ℕ) → List CommandLine → List CommandLine → Type 0
AlikeByAnyMap suffixes first second =
    (f : List ℕ → List ℕ) × ((n : List ℕ) → Contains (names_of_run suffixes first) n → folder_of (f n) ≡ folder_of n)
    × ((n : List ℕ) → Contains (names_of_run suffixes first) n → class_of_name suffixes (f n) ≡ class_of_name suffixes n)
    × (map (command_through suffixes f) first ≡ map (command_through suffixes (λ n. n)) second)

abbrev pub AlikeInOtherFolders : List (List ℕ) → List CommandLine → List CommandLine → Type 0
AlikeInOtherFolders suffixes first second =
    (f : List ℕ → List ℕ) × ((m n : List ℕ) → Contains (names_of_run suffixes first) m → Contains (names_of_run suffixes first) n → f m ≡ f n → m ≡ n)
    × ((n : List ℕ) → Contains (names_of_run suffixes first) n → class_of_name suffixes (f n) ≡ class_of_name suffixes n)
    × (map (command_through suffixes f) first ≡ map (command_through suffixes (λ n. n)) second)

-- runs that are alike in some way; one needn't be clean, or both are
abbrev pub AreAlikeFirstUnclean : List (List ℕ) → List CommandLine → List CommandLine → Type 0
AreAlikeFirstUnclean suffixes first second = (is_clean suffixes second ≡ true) × Alike suffixes first second

abbrev pub AreAlikeSecondUnclean : List (List ℕ) → List CommandLine → List CommandLine → Type 0
AreAlikeSecondUnclean suffixes first second = (is_clean suffixes first ≡ true) × Alike suffixes first second

abbrev pub AreCleanByAnyMap : List (List ℕ) → List CommandLine → List CommandLine → Type 0
AreCleanByAnyMap suffixes first second = (is_clean suffixes first ≡ true) × (is_clean suffixes second ≡ true) × AlikeByAnyMap suffixes first second

abbrev pub AreCleanInOtherFolders : List (List ℕ) → List CommandLine → List CommandLine → Type 0
AreCleanInOtherFolders suffixes first second =
    (is_clean suffixes first ≡ true) × (is_clean suffixes second ≡ true) × AlikeInOtherFolders suffixes first second

-- runs that are alike in some way have the same canonical run
abbrev pub Agree : (List (List ℕ) → List CommandLine → List CommandLine → Type 0) → Type 0
Agree Relation =
    (suffixes : List (List ℕ)) → AreSuffixes suffixes → (first second : List CommandLine) →
    Relation suffixes first second → renamed suffixes first ≡ renamed suffixes second

-- runs with the same canonical run are alike, even if the first, or the second, isn't clean
abbrev pub OneRunIsAlikeFirstUnclean : Type 0
OneRunIsAlikeFirstUnclean =
    (suffixes : List (List ℕ)) → AreSuffixes suffixes → (first second : List CommandLine) →
    is_clean suffixes second ≡ true → renamed suffixes first ≡ renamed suffixes second → Alike suffixes first second

abbrev pub OneRunIsAlikeSecondUnclean : Type 0
OneRunIsAlikeSecondUnclean =
    (suffixes : List (List ℕ)) → AreSuffixes suffixes → (first second : List CommandLine) →
    is_clean suffixes first ≡ true → renamed suffixes first ≡ renamed suffixes second → Alike suffixes first second

-- renaming any run twice is the same as renaming it once
abbrev pub EveryRunIsRenamedOnce : Type 0
EveryRunIsRenamedOnce =
    (suffixes : List (List ℕ)) → AreSuffixes suffixes → (commands : List CommandLine) →
    renamed suffixes (renamed suffixes commands) ≡ renamed suffixes commands
