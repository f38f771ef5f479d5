-- The words that the environment adds to an nvcc line.
use Rattle.std.specs.Prelude.{ℕ, List, [], ◌++◌, Bool, not, ◌||◌, filter, unwrap_or, option_and_then, codes, bytes_eq}
use Rattle.texts.specs.Variables.{first_value}
use Rattle.texts.specs.Shell.Splitting.{shell_words}

-- the names of the variables that nvcc takes words from: the words before a line's own, and those after them
abbrev pub prepended_name : List ℕ
prepended_name = codes "NVCC_PREPEND_FLAGS"

abbrev pub appended_name : List ℕ
appended_name = codes "NVCC_APPEND_FLAGS"

-- whether a name is one of the two
abbrev pub is_flags_name : List ℕ → Bool
is_flags_name name = bytes_eq name prepended_name || bytes_eq name appended_name

-- an environment without the variables of these names
abbrev pub without_flags : List (List ℕ × List ℕ) → List (List ℕ × List ℕ)
without_flags env_vars = filter (λ variable. not (is_flags_name variable.0)) env_vars

-- the shell words of the first variable of a name; none if there is no such variable, or the shell can't split its value
abbrev pub added_words : List ℕ → List (List ℕ × List ℕ) → List (List ℕ)
added_words name env_vars = unwrap_or (option_and_then shell_words (first_value name env_vars)) []

-- a line with the words that the environment adds
abbrev pub with_added_words : List (List ℕ × List ℕ) → List (List ℕ) → List (List ℕ)
with_added_words env_vars words = (added_words prepended_name env_vars ++ words) ++ added_words appended_name env_vars
