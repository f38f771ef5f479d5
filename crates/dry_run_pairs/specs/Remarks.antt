-- What else is read off dry runs: nvcc's messages, and in which order it runs device commands.
use Rattle.std.specs.Prelude.{◌≡◌, ℕ, List, [], ◌∷◌, ◌++◌, Bool, true, false, not, ◌&&◌, ◌||◌, nat_eq, Option, Some, None, if◌then◌else◌, codes, refl, option_and_then}
use Rattle.std.specs.List.{ends_with, flat_map, list_any}
use Rattle.std.specs.Str.Lines.{lines}
use Rattle.dry_run_pairs.specs.Cuts.{cut, holds}
use Rattle.dry_run_pairs.specs.Lines.{is_marked, marked}

-- a line with its newline
abbrev pub ended : List ℕ → List ℕ
ended line = line ++ 10 ∷ []

-- the lines of a dry run that pass a test, each with its newline
abbrev pub lines_that : (List ℕ → Bool) → List ℕ → List ℕ
lines_that test run = flat_map (λ line. if test line then ended line else []) (lines run)

-- whether a line is a message of nvcc
abbrev pub is_remark : List ℕ → Bool
is_remark line = not (is_marked line)

-- nvcc's messages in a dry run
abbrev pub remarks : List ℕ → List ℕ
remarks run = lines_that is_remark run

-- whether nvcc says in a line that it lacks a file that a command would have printed to
abbrev pub misses_printed : List ℕ → Bool
misses_printed line = holds (codes "Could not open input file ") line && ends_with nat_eq line (codes "_stdout")

-- whether a dry run failed because it lacks such a file, as one with --threads does before nvcc 13
abbrev pub fails_by_threads : List ℕ → Bool
fails_by_threads run = list_any misses_printed (lines run)

-- the dry run that such a one would have been: its other messages, and the commands of one with one thread
abbrev pub is_other_remark : List ℕ → Bool
is_other_remark line = is_remark line && not (misses_printed line)

abbrev pub with_commands : List ℕ → List ℕ → List ℕ
with_commands run again = lines_that is_other_remark run ++ lines_that is_marked again

-- a command's program, with its path, or nothing if a line is none
abbrev pub front_part : Option (List ℕ × List ℕ) → List ℕ
front_part None = []
front_part (Some parts) = parts.0

abbrev pub program_of : List ℕ → List ℕ
program_of line = front_part (option_and_then (cut (codes " ")) (marked line))

-- whether a line is a command of a program, whose path may be in quotes
abbrev pub runs : List ℕ → List ℕ → Bool
runs program line = ends_with nat_eq (program_of line) program || ends_with nat_eq (program_of line) (program ++ 34 ∷ [])

-- whether nvcc runs cicc before cudafe++, as before version 12
abbrev pub devices_first_in : List (List ℕ) → Bool
devices_first_in [] = false
devices_first_in (line ∷ rest) =
    if runs (codes "cudafe++") line then false else
    if runs (codes "cicc") line then list_any (runs (codes "cudafe++")) rest else devices_first_in rest

abbrev pub devices_first : List ℕ → Bool
devices_first run = devices_first_in (lines run)

-- examples
pub two_messages : remarks (codes "a\n#$ b\n\nc") ≡ codes "a\n\nc\n"
two_messages = refl

pub commands_of_another : with_commands (codes "a\n#$ b\nx: Could not open input file k_stdout\n") (codes "c\n#$ d\n") ≡ codes "a\n#$ d\n"
commands_of_another = refl

pub old_order : devices_first (codes "#$ A=b\n#$ \"$CICC_PATH/cicc\" x\n#$ cudafe++ y\n") ≡ true
old_order = refl

pub new_order : devices_first (codes "#$ cudafe++ y\n#$ \"$CICC_PATH/cicc\" x\n#$ cudafe++ y\n") ≡ false
new_order = refl

pub no_host_code : devices_first (codes "#$ \"$CICC_PATH/cicc\" x\n#$ ptxas y\n") ≡ false
no_host_code = refl
