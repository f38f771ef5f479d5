-- The look-ups that reading a dry run makes. They are a function of its bytes and of the working directory: which
-- program a line asks for depends on the environment lines before it, and never on what a look-up answered.
use Rattle.std.specs.Prelude.{ℕ, List, [], map}
use Rattle.dry_runs.specs.declared.parsed.ParsedRun.{ParsedRun}
use Rattle.dry_runs.specs.declared.parsed_runs.ParsedRuns.{ParsedRuns}
use Rattle.compilers.specs.CommandLines.{CommandLine}
use Rattle.dry_runs.specs.Parsed.{both_parsed, parsed_of, path_of, program_in}
use Rattle.dry_runs.specs.declared.lookup.Lookup.{Lookup}
use Rattle.dry_runs.specs.Lookup.{lookup_of, with_lookups}

-- what the question of a command asks for, by the value of `PATH`
abbrev pub lookup_in : List ℕ → List ℕ → CommandLine → Lookup
lookup_in path folder command = lookup_of (program_in path command.1) path folder

-- the look-ups of a parsed run, in order: those of its commands, up to the first line that is bad whatever is found. Reading stops
-- at the first program that isn't found too, so it makes these look-ups or the first few of them
abbrev pub lookups_in : List ℕ → ParsedRun → List Lookup
lookups_in folder run = map (lookup_in (path_of run.env) folder) run.commands

-- the look-ups of two parsed runs from one folder, in order of first ask, none twice
abbrev pub asked_by : List ℕ → ParsedRuns → List Lookup
asked_by folder runs = with_lookups (with_lookups [] (lookups_in folder runs.first)) (lookups_in folder runs.second)

-- the look-ups of a dry run, in such an order
abbrev pub asked_of : List ℕ → List ℕ → List Lookup
asked_of bytes folder = with_lookups [] (lookups_in folder (parsed_of 1 bytes))

-- the look-ups of two dry runs from one folder
abbrev pub asked_of_both : List ℕ → List ℕ → List ℕ → List Lookup
asked_of_both first second folder = asked_by folder (both_parsed first second)
