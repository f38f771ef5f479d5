-- The laws of canonical names, for all runs.
use Rattle.std.specs.Prelude.{◌≡◌, ℕ, List, [], ◌∷◌, ◌++◌, true, false, nat_eq, length, fold, if◌then◌else◌, map, Option, Some, None, codes, bytes_eq}
use Rattle.std.specs.List.{Contains, ends_with, filter, list_any}
use Rattle.texts.specs.Path.{is_bare, folder_of}
use Rattle.compilers.specs.CommandLines.{CommandLine, words_of_command}
use Rattle.canonical_names.specs.Generated.{standard_suffixes, head_of, core_of, class_of, class_of_name}
use Rattle.canonical_names.specs.Renaming.{names_of_run, rank, canonical_in, canonical_name, with_words, renamed_word, renamed}
use Rattle.texts.specs.Lists.{with_name}
use Rattle.canonical_names.specs.Alike.{holds, is_clean, Alike}
use Rattle.canonical_names.specs.Appearances.{appearances}

-- what the laws ask of a list of suffixes: none is an end of another, none contains `/`, and that of cicc's input is among
-- them
pub record AreSuffixes (suffixes : List (List ℕ)) : Type 0 where
  pub apart : (s t : List ℕ) → Contains suffixes s → Contains suffixes t → ends_with nat_eq s t ≡ true → s ≡ t
  pub bare : (s : List ℕ) → Contains suffixes s → is_bare s ≡ true
  pub input : Contains suffixes (codes ".cpp1.ii")

-- the suffixes of nvcc's files are such a list
abbrev pub StandardAreSuffixes : Type 0
StandardAreSuffixes = AreSuffixes standard_suffixes

-- different generated names of one run get different canonical names
abbrev pub DifferentNames : Type 0
DifferentNames =
    (suffixes : List (List ℕ)) → AreSuffixes suffixes → (commands : List CommandLine) (m n : List ℕ) →
    Contains (names_of_run suffixes commands) m → Contains (names_of_run suffixes commands) n →
    canonical_name suffixes (names_of_run suffixes commands) m ≡ canonical_name suffixes (names_of_run suffixes commands) n → m ≡ n

-- a canonical name keeps its folder, as a path, and its class
abbrev pub FolderAndClassStay : Type 0
FolderAndClassStay =
    (suffixes : List (List ℕ)) → AreSuffixes suffixes → (seen : List (List ℕ)) (name class : List ℕ) → class_of_name suffixes name ≡ Some class →
    (folder_of (canonical_name suffixes seen name) ≡ folder_of name) × (class_of_name suffixes (canonical_name suffixes seen name) ≡ Some class)

-- a word that isn't generated and contains no name seen so far keeps its text, except that of several leading `-Fi` one is
-- left
abbrev pub OtherWordsStay : Type 0
OtherWordsStay =
    (suffixes seen : List (List ℕ)) (word : List ℕ) → class_of suffixes word ≡ None → list_any (λ name. holds name (core_of word)) seen ≡ false →
    renamed_word suffixes seen word ≡ head_of word ++ core_of word

-- names without repetitions, in order of first appearance
abbrev pub different_ones : List (List ℕ) → List (List ℕ)
different_ones names = fold (λ seen name. with_name seen (Some name)) [] names

-- the names before a name's first appearance; all of them if it doesn't appear
abbrev pub before_name : List ℕ → List (List ℕ) → List (List ℕ)
before_name name [] = []
before_name name (n ∷ names) = if bytes_eq n name then [] else n ∷ before_name name names

-- a name's rank by all names of a run is the number of different names of its class that appear in the run before it does
abbrev pub RankCountsNames : Type 0
RankCountsNames =
    (suffixes : List (List ℕ)) (commands : List CommandLine) (name class : List ℕ) →
    rank class (names_of_run suffixes commands) name
    ≡ length (filter (λ n. ends_with nat_eq n class) (different_ones (before_name name (appearances suffixes commands))))

-- a word, and the words of a command, renamed by all names of the run
abbrev pub core_by_all : List (List ℕ) → List ℕ → Option (List ℕ) → List ℕ
core_by_all names core None = core
core_by_all names core (Some class) = canonical_in names core class

abbrev pub word_by_all : List (List ℕ) → List (List ℕ) → List ℕ → List ℕ
word_by_all suffixes names word = head_of word ++ core_by_all names (core_of word) (class_of suffixes word)

abbrev pub command_by_all : List (List ℕ) → List (List ℕ) → CommandLine → CommandLine
command_by_all suffixes names command = with_words command (map (word_by_all suffixes names) (words_of_command command))

-- in a clean run each word is renamed on its own, by all names of the run: a generated one to its canonical name, and any
-- other keeps its text, except that of several leading `-Fi` one is left
abbrev pub CleanRunIsAMap : Type 0
CleanRunIsAMap =
    (suffixes : List (List ℕ)) (commands : List CommandLine) → is_clean suffixes commands ≡ true →
    renamed suffixes commands ≡ map (command_by_all suffixes (names_of_run suffixes commands)) commands

-- clean runs that are alike have the same canonical run
abbrev pub AlikeRunsAgree : Type 0
AlikeRunsAgree =
    (suffixes : List (List ℕ)) → AreSuffixes suffixes → (first second : List CommandLine) →
    is_clean suffixes first ≡ true → is_clean suffixes second ≡ true → Alike suffixes first second → renamed suffixes first ≡ renamed suffixes second

-- renaming a clean run twice is the same as renaming it once
abbrev pub RenamedOnceForAll : Type 0
RenamedOnceForAll =
    (suffixes : List (List ℕ)) → AreSuffixes suffixes → (commands : List CommandLine) →
    is_clean suffixes commands ≡ true → renamed suffixes (renamed suffixes commands) ≡ renamed suffixes commands

-- clean runs with the same canonical run are alike
abbrev pub OneCanonicalRun : Type 0
OneCanonicalRun =
    (suffixes : List (List ℕ)) → AreSuffixes suffixes → (first second : List CommandLine) →
    is_clean suffixes first ≡ true → is_clean suffixes second ≡ true → renamed suffixes first ≡ renamed suffixes second → Alike suffixes first second
