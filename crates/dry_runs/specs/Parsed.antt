-- A dry run that is parsed before its programs are looked up, and what their look-ups make of it.
use Rattle.std.specs.Prelude.{◌≡◌, ℕ, List, [], ◌∷◌, ◌++◌, Option, Some, None, Result, Ok, Err, codes, unwrap_or}
use Rattle.std.specs.Option.{option_and_then, option_map_or, option_or}
use Rattle.texts.specs.declared.fault.Fault.{Fault}
use Rattle.texts.specs.declared.fault.Fault.TheVariants.{NotUtf8, BadShell, EmptyCommand, NoPath, NotFound}
use Rattle.texts.specs.Lists.{rest_after}
use Rattle.texts.specs.Results.{and_then}
use Rattle.texts.specs.Variables.{first_value}
use Rattle.dry_runs.specs.declared.limit.LimitedFault.{LimitedFault}
use Rattle.dry_runs.specs.declared.limit.LimitedFault.TheVariants.{TooLong}
use Rattle.dry_runs.specs.declared.limit.LimitedFault.TheVariants as limited
use Rattle.dry_runs.specs.declared.parsed.ParsedRun.{ParsedRun}
use Rattle.dry_runs.specs.declared.parsed_runs.ParsedRuns.{ParsedRuns}
use Rattle.compilers.specs.CommandLines.{CommandLine}
use Rattle.dry_runs.specs.DryRun.{LookUp, Meaning, Ignored, Assigns, Runs, Bad, meanings, dry_run_of}
use Rattle.dry_runs.specs.DryRunLines.{numbered_lines}
use Rattle.dry_runs.specs.Environment.{Variable}
use Rattle.dry_runs.specs.Limit.{first_too_long}

-- what a look-up is asked: the value of `PATH`, and the program's name behind it
abbrev pub question_of : LookUp
question_of program path cwd = Some (path ++ program)

-- the program's name in such a question
abbrev pub program_in : List ℕ → List ℕ → List ℕ
program_in path question = unwrap_or (rest_after path question) []

-- the value of `PATH`, or nothing
abbrev pub path_of : List Variable → List ℕ
path_of env = unwrap_or (first_value (codes "PATH") env) []

-- a run with one more line in front, by what the line means. Nothing is read behind a bad one
abbrev pub with_line : Meaning → ParsedRun → ParsedRun
with_line Ignored run = run
with_line (Assigns v) run = record { commands = run.commands; env = v ∷ run.env; fault = run.fault }
with_line (Runs command) run = record { commands = command ∷ run.commands; env = run.env; fault = run.fault }
with_line (Bad fault) run = record { commands = []; env = []; fault = Some fault }

-- the run that some lines are, by what they mean
abbrev pub run_of_lines : List Meaning → ParsedRun
run_of_lines [] = record { commands = []; env = []; fault = None }
run_of_lines (m ∷ ms) = with_line m (run_of_lines ms)

-- a run up to its first bad line, with such a look-up
abbrev pub lines_read : LookUp → ℕ → List ℕ → List ℕ → ParsedRun
lines_read which run bytes cwd = run_of_lines (meanings which run cwd [] (numbered_lines bytes))

-- a run that is parsed: in place of a program's path it has the question
abbrev pub parsed_of : ℕ → List ℕ → ParsedRun
parsed_of run bytes = lines_read question_of run bytes []

-- the two runs of a call, parsed
abbrev pub both_parsed : List ℕ → List ℕ → ParsedRuns
both_parsed dry1 dry2 = record { first = parsed_of 1 dry1; second = parsed_of 2 dry2 }

-- a run is one that was parsed, and so are both of a call
abbrev pub IsParsed : ParsedRun → Type 0
IsParsed parsed = (run : ℕ) × (bytes : List ℕ) × (parsed ≡ parsed_of run bytes)

abbrev pub AreParsed : ParsedRuns → Type 0
AreParsed runs = IsParsed runs.first × IsParsed runs.second

-- a run, unless a line exceeds the limit
abbrev pub unless_long : ℕ → Option ℕ → ParsedRun → Result ParsedRun LimitedFault
unless_long run (Some line) parsed = Err (TooLong run line)
unless_long run None parsed = Ok parsed

-- a run that is read within a limit, with such a look-up
abbrev pub lines_read_within : LookUp → ℕ → ℕ → List ℕ → List ℕ → Result ParsedRun LimitedFault
lines_read_within which limit run bytes cwd =
    unless_long run (first_too_long which run cwd limit [] (numbered_lines bytes)) (lines_read which run bytes cwd)

-- a run that is parsed within a limit
abbrev pub parsed_within : ℕ → ℕ → List ℕ → Result ParsedRun LimitedFault
parsed_within limit run bytes = lines_read_within question_of limit run bytes []

-- the two runs of a call, each parsed with the whole limit; or else why the first couldn't be parsed, or the second if the
-- first could
abbrev pub both_parsed_within : ℕ → List ℕ → List ℕ → Result ParsedRuns LimitedFault
both_parsed_within limit dry1 dry2 =
    and_then (parsed_within limit 1 dry1) (λ first. and_then (parsed_within limit 2 dry2) (λ second. Ok (record { first = first; second = second })))

-- commands and environment, unless a line is bad
abbrev pub unless_bad : List CommandLine → List Variable → Option Fault → Result (List CommandLine × List Variable) Fault
unless_bad commands env None = Ok (commands, env)
unless_bad commands env (Some fault) = Err fault

abbrev pub whole : ParsedRun → Result (List CommandLine × List Variable) Fault
whole run = unless_bad run.commands run.env run.fault

-- the same of an answer within a limit
abbrev pub limited_whole : Result (List CommandLine × List Variable) Fault → Result (List CommandLine × List Variable) LimitedFault
limited_whole (Ok said) = Ok said
limited_whole (Err fault) = Err (limited.Fault fault)

abbrev pub whole_in : Result ParsedRun LimitedFault → Result (List CommandLine × List Variable) LimitedFault
whole_in (Ok run) = limited_whole (whole run)
whole_in (Err fault) = Err fault

-- commands behind one whose program was looked up
abbrev pub behind_found : CommandLine → List ℕ → Option (List ℕ) → Result (List CommandLine) Fault → Result (List CommandLine) Fault
behind_found command program None rest = Err (NotFound program)
behind_found command program (Some path) (Ok rest) = Ok ((command.0, path, command.2) ∷ rest)
behind_found command program (Some path) (Err fault) = Err fault

-- A run's programs are looked up from a working directory.
module _ (which : LookUp) (cwd : List ℕ) where
  -- commands with their programs' paths, or the first program that isn't found
  abbrev pub found_commands : List ℕ → List CommandLine → Result (List CommandLine) Fault
  found_commands path [] = Ok []
  found_commands path (c ∷ cs) = behind_found c (program_in path c.1) (which (program_in path c.1) path cwd) (found_commands path cs)

  -- the line of the first command whose program isn't found
  abbrev pub first_missing : List ℕ → List CommandLine → Option ℕ
  first_missing path [] = None
  first_missing path (c ∷ cs) = option_map_or (λ _. first_missing path cs) (which (program_in path c.1) path cwd) (Some c.0)

-- what a parsed run says, once its programs are looked up
abbrev pub resolved : LookUp → List ℕ → ParsedRun → Result (List CommandLine × List Variable) Fault
resolved which cwd run = and_then (found_commands which cwd (path_of run.env) run.commands) (λ commands. unless_bad commands run.env run.fault)

-- the line of a fault, if it has one
abbrev pub line_of_fault : Fault → Option ℕ
line_of_fault (NotUtf8 run line) = Some line
line_of_fault (BadShell run line) = Some line
line_of_fault (EmptyCommand run line) = Some line
line_of_fault (NoPath run line) = Some line
line_of_fault fault = None

-- the first line of a parsed run that is bad once its programs are looked up
abbrev pub bad_line : LookUp → List ℕ → ParsedRun → Option ℕ
bad_line which cwd run = option_or (first_missing which cwd (path_of run.env) run.commands) (option_and_then line_of_fault run.fault)

-- looking up the programs of a parsed run says what reading the run with the look-up says
abbrev pub ParsesThenResolves : Type 0
ParsesThenResolves = (run : ℕ) (bytes cwd : List ℕ) (which : LookUp) → resolved which cwd (parsed_of run bytes) ≡ dry_run_of run bytes cwd which
