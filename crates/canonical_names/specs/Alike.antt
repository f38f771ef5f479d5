-- Clean runs, and runs that differ only in the names of their generated files.
use Rattle.std.specs.Prelude.{◌≡◌, ℕ, List, [], ◌∷◌, map, Bool, not, ◌||◌, nat_eq, Option, Some, None, Contains, bytes_eq}
use Rattle.std.specs.List.{list_any, list_all, starts_with}
use Rattle.texts.specs.Path.{folder_of}
use Rattle.compilers.specs.CommandLines.{CommandLine, line_of, program_of, words_of_command}
use Rattle.canonical_names.specs.Generated.{head_of, core_of, class_of, class_of_name, is_generated}
use Rattle.canonical_names.specs.Renaming.{names_of_run}

-- whether a text contains a part
abbrev pub holds : List ℕ → List ℕ → Bool
holds part [] = bytes_eq part []
holds part (c ∷ cs) = starts_with nat_eq (c ∷ cs) part || holds part cs

-- a word is clean if it is generated, or contains none of the names; the whole word counts, its head too
abbrev pub is_clean_word : List (List ℕ) → List (List ℕ) → List ℕ → Bool
is_clean_word suffixes names word = is_generated suffixes word || not (list_any (λ name. holds name word) names)

-- a run is clean if all of its words are, with the generated names of the whole run
abbrev pub is_clean : List (List ℕ) → List CommandLine → Bool
is_clean suffixes commands =
    let names = names_of_run suffixes commands in
    list_all (λ command. list_all (is_clean_word suffixes names) (words_of_command command)) commands

-- Below, f gives another name for a generated name.

-- what the comparison sees of a word: its head, its class, and its core, with f applied to a generated name
abbrev pub core_through : (List ℕ → List ℕ) → List ℕ → Option (List ℕ) → List ℕ
core_through f core None = core
core_through f core (Some class) = f core

abbrev pub word_through : List (List ℕ) → (List ℕ → List ℕ) → List ℕ → List ℕ × Option (List ℕ) × List ℕ
word_through suffixes f word = (head_of word, class_of suffixes word, core_through f (core_of word) (class_of suffixes word))

-- what it sees of a command: its line, its program, and each of its words
abbrev pub command_through : List (List ℕ) → (List ℕ → List ℕ) → CommandLine → ℕ × List ℕ × List (List ℕ × Option (List ℕ) × List ℕ)
command_through suffixes f command = (line_of command, program_of command, map (word_through suffixes f) (words_of_command command))

-- a one-to-one map of names that keeps folder and class
pub record IsRenaming (suffixes names : List (List ℕ)) (f : List ℕ → List ℕ) : Type 0 where
  pub one_to_one : (m n : List ℕ) → Contains names m → Contains names n → f m ≡ f n → m ≡ n
  pub keeps_folder : (n : List ℕ) → Contains names n → folder_of (f n) ≡ folder_of n
  pub keeps_class : (n : List ℕ) → Contains names n → class_of_name suffixes (f n) ≡ class_of_name suffixes n

-- Two runs are alike if some renaming of the first run's generated names makes the comparison see the same in both: line
-- numbers, programs, how many words, their heads, which are generated and of which class, the names, and the cores of all
-- other words.
abbrev pub Alike : List (List ℕ) → List CommandLine → List CommandLine → Type 0
Alike suffixes first second =
    (f : List ℕ → List ℕ) × IsRenaming suffixes (names_of_run suffixes first) f
    × (map (command_through suffixes f) first ≡ map (command_through suffixes (λ n. n)) second)
