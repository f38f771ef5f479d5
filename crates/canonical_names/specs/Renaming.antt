-- The canonical names of a dry run's generated files.
use Rattle.std.specs.Prelude.{ℕ, ◌+◌, List, [], ◌∷◌, ◌++◌, nat_eq, nat_lt, length, if◌then◌else◌, Option, Some, None, fold, codes, bytes_eq}
use Rattle.std.specs.List.{ends_with}
use Rattle.texts.specs.Path.{joined, folder_of}
use Rattle.compilers.specs.CommandLines.{CommandLine, line_of, program_of, words_of_command}
use Rattle.canonical_names.specs.Generated.{head_of, core_of, class_of, class_of_name, generated_name}
use Rattle.compilers.specs.Replacing.{replaced}
use Rattle.texts.specs.Lists.{with_name}
use Rattle.texts.specs.Numeral.{numeral}

-- Names are listed in order of first appearance, each once.

-- the names seen after a word, and after the words of a command
abbrev pub seen_after_word : List (List ℕ) → List (List ℕ) → List ℕ → List (List ℕ)
seen_after_word suffixes seen word = with_name seen (generated_name suffixes word)

abbrev pub seen_after : List (List ℕ) → List (List ℕ) → List (List ℕ) → List (List ℕ)
seen_after suffixes seen words = fold (seen_after_word suffixes) seen words

-- the generated names of a run
abbrev pub names_of_run : List (List ℕ) → List CommandLine → List (List ℕ)
names_of_run suffixes commands = fold (λ seen command. seen_after suffixes seen (words_of_command command)) [] commands

-- the rank of a name of a class: how many names of that class were seen before its own first appearance
abbrev pub rank : List ℕ → List (List ℕ) → List ℕ → ℕ
rank class [] name = 0
rank class (n ∷ seen) name = if bytes_eq n name then 0 else (if ends_with nat_eq n class then 1 else 0) + rank class seen name

-- the canonical file name of a rank and a class
abbrev pub canonical_file : ℕ → List ℕ → List ℕ
canonical_file k class = codes "x_" ++ (numeral k ++ class)

-- the canonical name of a name of a class: in its folder, `x_`, its rank and its class
abbrev pub canonical_in : List (List ℕ) → List ℕ → List ℕ → List ℕ
canonical_in seen name class = joined (folder_of name) (canonical_file (rank class seen name) class)

abbrev pub canonical_or : List (List ℕ) → List ℕ → Option (List ℕ) → List ℕ
canonical_or seen name None = name
canonical_or seen name (Some class) = canonical_in seen name class

-- the canonical name of a generated name
abbrev pub canonical_name : List (List ℕ) → List (List ℕ) → List ℕ → List ℕ
canonical_name suffixes seen name = canonical_or seen name (class_of_name suffixes name)

-- inserts into a list, after all that are at least as long
abbrev pub insert_by : {A : Type 0} → (A → ℕ) → List A → A → List A
insert_by size [] x = x ∷ []
insert_by size (y ∷ ys) x = if nat_lt (size y) (size x) then x ∷ y ∷ ys else y ∷ insert_by size ys x

-- names, the longest first, and equally long ones in their order
abbrev pub longest_first : List (List ℕ) → List (List ℕ)
longest_first names = fold (insert_by length) [] names

-- a text that refers to generated files: each name seen is replaced by its canonical name, one name after the other,
-- the longest first
abbrev pub rewritten : List (List ℕ) → List (List ℕ) → List ℕ → List ℕ
rewritten suffixes seen text = fold (λ t name. replaced name (canonical_name suffixes seen name) t) text (longest_first seen)

-- the new core of a word, by its class: the canonical name if it is generated, else the text with its references rewritten
abbrev pub renamed_core : List (List ℕ) → List (List ℕ) → List ℕ → Option (List ℕ) → List ℕ
renamed_core suffixes seen core None = rewritten suffixes seen core
renamed_core suffixes seen core (Some class) = canonical_in seen core class

-- a word after these names were seen: it keeps its head, and no other `-Fi`
abbrev pub renamed_word : List (List ℕ) → List (List ℕ) → List ℕ → List ℕ
renamed_word suffixes seen word = head_of word ++ renamed_core suffixes seen (core_of word) (class_of suffixes word)

-- the words of a command after these names were seen
abbrev pub renamed_words : List (List ℕ) → List (List ℕ) → List (List ℕ) → List (List ℕ)
renamed_words suffixes seen [] = []
renamed_words suffixes seen (word ∷ words) = renamed_word suffixes seen word ∷ renamed_words suffixes (seen_after_word suffixes seen word) words

-- a command with other words
abbrev pub with_words : CommandLine → List (List ℕ) → CommandLine
with_words command words = (line_of command, program_of command, words)

-- the commands of a run after these names were seen
abbrev pub renamed_after : List (List ℕ) → List (List ℕ) → List CommandLine → List CommandLine
renamed_after suffixes seen [] = []
renamed_after suffixes seen (command ∷ commands) =
    with_words command (renamed_words suffixes seen (words_of_command command))
    ∷ renamed_after suffixes (seen_after suffixes seen (words_of_command command)) commands

-- the canonical run: the commands of a run with all their words renamed
abbrev pub renamed : List (List ℕ) → List CommandLine → List CommandLine
renamed suffixes commands = renamed_after suffixes [] commands
