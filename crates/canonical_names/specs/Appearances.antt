-- The generated names of a run as they appear.
use Rattle.std.specs.Prelude.{ℕ, List}
use Rattle.std.specs.List.{filter_map, flat_map}
use Rattle.compilers.specs.CommandLines.{CommandLine, words_of_command}
use Rattle.canonical_names.specs.Generated.{generated_name}

-- the generated names of a run in order of appearance, each as often as it appears
abbrev pub appearances : List (List ℕ) → List CommandLine → List (List ℕ)
appearances suffixes commands = flat_map (λ command. filter_map (generated_name suffixes) (words_of_command command)) commands
