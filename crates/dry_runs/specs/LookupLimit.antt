-- A limit for the paths that look-ups try: what counts, and which command is the first that exceeds it.
use Rattle.std.specs.Prelude.{◌≡◌, ℕ, ◌+◌, List, [], ◌∷◌, length, Option, Some, None, Result, Ok, Err, refl, codes}
use Rattle.std.specs.Option.{option_map_or}
use Rattle.dry_runs.specs.declared.limit.LimitedFault.{LimitedFault}
use Rattle.dry_runs.specs.declared.limit.LimitedFault.TheVariants.{TooLong}
use Rattle.dry_runs.specs.declared.parsed.ParsedRun.{ParsedRun}
use Rattle.dry_runs.specs.declared.parsed_runs.ParsedRuns.{ParsedRuns}
use Rattle.compilers.specs.CommandLines.{CommandLine}
use Rattle.dry_runs.specs.Limit.{left_behind}
use Rattle.dry_runs.specs.Parsed.{both_parsed_within, path_of, program_in}
use Rattle.dry_runs.specs.Candidates.{candidates_of}

-- what a path counts beside its bytes: trying it is a call of the system
abbrev pub path_cost : ℕ
path_cost = 16

-- what the paths count that a look-up tries
abbrev pub tried_bytes : List (List ℕ) → ℕ
tried_bytes [] = 0
tried_bytes (path ∷ paths) = length path + path_cost + tried_bytes paths

-- Programs are looked up by a value of `PATH` and a working directory.
module _ (path folder : List ℕ) where
  -- the line of the first command whose look-up, with those before it, tries paths that count more than is left
  abbrev pub first_over : ℕ → List CommandLine → Option ℕ
  first_over left [] = None
  first_over left (c ∷ cs) =
      option_map_or (λ less. first_over less cs) (left_behind left (tried_bytes (candidates_of (program_in path c.1) path folder))) (Some c.0)

-- the same of a parsed run
abbrev pub over_in : ℕ → List ℕ → ParsedRun → Option ℕ
over_in limit folder run = first_over (path_of run.env) folder limit run.commands

-- an answer, unless a command of the run of a number exceeds the limit
abbrev pub unless_over : ℕ → Option ℕ → Result ParsedRuns LimitedFault → Result ParsedRuns LimitedFault
unless_over run (Some line) answer = Err (TooLong run line)
unless_over run None answer = answer

-- two runs, unless the look-ups of one exceed the limit
abbrev pub fitting_runs : ℕ → List ℕ → Result ParsedRuns LimitedFault → Result ParsedRuns LimitedFault
fitting_runs limit folder (Ok runs) = unless_over 1 (over_in limit folder runs.first) (unless_over 2 (over_in limit folder runs.second) (Ok runs))
fitting_runs limit folder (Err fault) = Err fault

-- two dry runs that are parsed within a limit, and whose look-ups from a working directory are within it too
abbrev pub both_fitting : ℕ → List ℕ → List ℕ → List ℕ → Result ParsedRuns LimitedFault
both_fitting limit folder first second = fitting_runs limit folder (both_parsed_within limit first second)

-- example: `/a/cc` and `/b/cc` count five bytes each and 16 more
pub two_paths_are_tried : tried_bytes (candidates_of (codes "cc") (codes "/a:/b") (codes "/w")) ≡ 42
two_paths_are_tried = refl
