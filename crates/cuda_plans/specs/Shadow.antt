-- Shadow runs: second runs that put the generated files of the first run into a temporary directory.
use Rattle.std.specs.Prelude.{ℕ, List, map, filter, Bool, true, false, not, ◌&&◌, ◌||◌, Option, Some, None, codes, bytes_eq}
use Rattle.std.specs.List.{list_all}
use Rattle.std.specs.Cmp.Lexicographic.{pointwise}
use Rattle.texts.specs.Path.{joined, is_bare, file_name_of}
use Rattle.texts.specs.DeviceFiles.{is_cicc_word}
use Rattle.compilers.specs.CommandLines.{CommandLine, words_of_command}
use Rattle.canonical_names.specs.Appearances.{appearances}
use Rattle.canonical_names.specs.Generated.{begins_with_dash}
use Rattle.texts.specs.Lists.{word_after}

-- whether a file name is that of an input of cicc
abbrev pub is_cicc_file : Option (List ℕ) → Bool
is_cicc_file None = false
is_cicc_file (Some name) = is_cicc_word name

-- An output is plain if its file name isn't that of an input of cicc, or if the whole word ends like such an input and
-- doesn't begin with `-`. So `k.cpp1.ii/` isn't plain.
abbrev pub is_plain_output : Option (List ℕ) → Bool
is_plain_output None = true
is_plain_output (Some word) = not (is_cicc_file (file_name_of word)) || (not (begins_with_dash word) && is_cicc_word word)

-- whether names of the first run are bare, those of the second are the same ones joined to a folder, one by one, and the second run's
-- outputs are plain
abbrev pub are_shadows : List (List ℕ) → List (List ℕ) → List ℕ → List CommandLine → Bool
are_shadows first second folder commands =
    list_all is_bare first
    && (pointwise bytes_eq second (map (joined folder) first)
    && list_all (λ command. is_plain_output (word_after (codes "-o") (words_of_command command))) commands)

-- whether the second run shadows the first in a folder, by all generated names
abbrev pub is_shadow : List (List ℕ) → List CommandLine → List CommandLine → List ℕ → Bool
is_shadow suffixes first second folder = are_shadows (appearances suffixes first) (appearances suffixes second) folder second

-- the generated names of a run that end in `.cpp1.ii` in order of appearance, each as often as it appears
abbrev pub step_names : List (List ℕ) → List CommandLine → List (List ℕ)
step_names suffixes commands = filter is_cicc_word (appearances suffixes commands)

-- whether the second run shadows the first in a folder by these names: the files that preprocess steps write and cicc reads
abbrev pub is_step_shadow : List (List ℕ) → List CommandLine → List CommandLine → List ℕ → Bool
is_step_shadow suffixes first second folder = are_shadows (step_names suffixes first) (step_names suffixes second) folder second
