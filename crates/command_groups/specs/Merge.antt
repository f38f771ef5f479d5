-- The commands of two dry runs that are planned: which of each run, and in which order.
use Rattle.std.specs.Prelude.{ℕ, List, [], ◌∷◌, ◌++◌, Bool, not, ◌&&◌, ◌||◌, ◌==◌, nat_lt, nat_le, if◌then◌else◌, map, filter, codes, bytes_eq}
use Rattle.std.specs.List.{list_any}
use Rattle.texts.specs.Path.{file_stem_of}
use Rattle.compilers.specs.CommandLines.{CommandLine, line_of, program_of, words_of_command}
use Rattle.texts.specs.Lists.{is_some_and}

-- whether a stem is one of nvcc's own tools, and whether it is one of any other program
abbrev pub is_nvcc_stem : List ℕ → Bool
is_nvcc_stem stem = list_any (bytes_eq stem) (codes "cicc" ∷ codes "ptxas" ∷ codes "cudafe++" ∷ codes "nvlink" ∷ codes "fatbinary" ∷ [])

abbrev pub is_host_stem : List ℕ → Bool
is_host_stem stem = not (is_nvcc_stem stem)

-- whether a program has a stem that passes a test, and the commands of a run whose program has
abbrev pub is_taken : (List ℕ → Bool) → List ℕ → Bool
is_taken test program = is_some_and test (file_stem_of program)

abbrev pub selected : (List ℕ → Bool) → List CommandLine → List CommandLine
selected test commands = filter (λ c. is_taken test (program_of c)) commands

-- a command that is planned: the line and the run that it is of, its program and its words
pub record MergedCommand : Type 0 where
  pub line : ℕ
  pub run : ℕ
  pub program : List ℕ
  pub words : List (List ℕ)

abbrev pub of_run : ℕ → CommandLine → MergedCommand
of_run run c = record { line = line_of c; run = run; program = program_of c; words = words_of_command c }

-- whether a command doesn't stand after another one: its line is the lower one, or on equal lines its run isn't the higher one
abbrev pub is_in_order : MergedCommand → MergedCommand → Bool
is_in_order a b = nat_lt a.line b.line || ((a.line == b.line) && nat_le a.run b.run)

-- a command put into a list at its place in the order
abbrev pub put_in_order : MergedCommand → List MergedCommand → List MergedCommand
put_in_order c [] = c ∷ []
put_in_order c (d ∷ ds) = if is_in_order c d then c ∷ d ∷ ds else d ∷ put_in_order c ds

-- commands in order of line and run
abbrev pub in_order : List MergedCommand → List MergedCommand
in_order [] = []
in_order (c ∷ cs) = put_in_order c (in_order cs)

-- the merged list: nvcc's own tools of the first run and all other programs of the second, in order of line and run
abbrev pub merged : List CommandLine → List CommandLine → List MergedCommand
merged first second = in_order (map (of_run 1) (selected is_nvcc_stem first) ++ map (of_run 2) (selected is_host_stem second))
