-- What a dry run says: its commands and its environment, or the first line that is bad; and what a line says by itself.
use Rattle.std.specs.Prelude.{ℕ, List, [], ◌∷◌, ◌++◌, Option, Some, None, Result, Ok, Err, if◌then◌else◌, codes, filter_map}
use Rattle.std.specs.Str.{is_utf8}
use Rattle.texts.specs.declared.fault.Fault.{Fault}
use Rattle.texts.specs.declared.fault.Fault.TheVariants.{NotUtf8, BadShell, EmptyCommand, NoPath, NotFound}
use Rattle.compilers.specs.CommandLines.{CommandLine}
use Rattle.dry_runs.specs.declared.statement.Statement.{Statement}
use Rattle.dry_runs.specs.declared.statement.Statement.TheVariants as statements
use Rattle.texts.specs.Variables.{first_value}
use Rattle.dry_runs.specs.Environment.{Variable, assignment, expanded}
use Rattle.dry_runs.specs.DryRunLines.{numbered_lines, marked_text}
use Rattle.texts.specs.Shell.Splitting.{shell_words}

-- a look-up: the program's path, by its name, the value of `PATH` and the working directory
abbrev pub LookUp : Type 0
LookUp = List ℕ → List ℕ → List ℕ → Option (List ℕ)

-- what a line of a dry run means
pub data Meaning : Type 0 where
  Ignored : Meaning
  Assigns : List ℕ × List ℕ → Meaning
  Runs : ℕ × List ℕ × List (List ℕ) → Meaning
  Bad : Fault → Meaning

-- A line stands in the run of a number, and is read with a look-up and a working directory.
module _ (which : LookUp) (run : ℕ) (cwd : List ℕ) where
  -- a command whose program was looked up
  abbrev pub meaning_found : ℕ → List ℕ → List (List ℕ) → Option (List ℕ) → Meaning
  meaning_found line program words None = Bad (NotFound program)
  meaning_found line program words (Some path) = Runs (line, path, words)

  -- a command, by the value of `PATH`
  abbrev pub meaning_by_path : ℕ → List ℕ → List (List ℕ) → Option (List ℕ) → Meaning
  meaning_by_path line program words None = Bad (NoPath run line)
  meaning_by_path line program words (Some path) = meaning_found line program words (which program path cwd)

  -- a command, by the words of its line
  abbrev pub meaning_of_words : ℕ → List Variable → Option (List (List ℕ)) → Meaning
  meaning_of_words line env None = Bad (BadShell run line)
  meaning_of_words line env (Some []) = Bad (EmptyCommand run line)
  meaning_of_words line env (Some (program ∷ words)) = meaning_by_path line program words (first_value (codes "PATH") env)

  -- a marked line, by what it assigns: a line that assigns nothing is a command
  abbrev pub meaning_assigned : ℕ → List Variable → List ℕ → Option Variable → Meaning
  meaning_assigned line env text None = meaning_of_words line env (shell_words (expanded env text))
  meaning_assigned line env text (Some v) = Assigns v

  -- a line, by the text behind its mark
  abbrev pub meaning_marked : ℕ → List Variable → Option (List ℕ) → Meaning
  meaning_marked line env None = Ignored
  meaning_marked line env (Some text) = meaning_assigned line env text (assignment text)

  -- a line of bytes with its number, behind these environment lines
  abbrev pub meaning : List Variable → ℕ × List ℕ → Meaning
  meaning env line = if is_utf8 line.1 then meaning_marked line.0 env (marked_text line.1) else Bad (NotUtf8 run line.0)

  -- the environment behind a line
  abbrev pub environment_after : List Variable → Meaning → List Variable
  environment_after env (Assigns v) = env ++ v ∷ []
  environment_after env _ = env

  -- what lines mean behind these environment lines
  abbrev pub meanings : List Variable → List (ℕ × List ℕ) → List Meaning
  meanings env [] = []
  meanings env (line ∷ lines) = meaning env line ∷ meanings (environment_after env (meaning env line)) lines

abbrev pub assigned_by : Meaning → Option Variable
assigned_by (Assigns v) = Some v
assigned_by _ = None

abbrev pub command_of : Meaning → Option CommandLine
command_of (Runs command) = Some command
command_of _ = None

-- why a line is bad
abbrev pub fault_of : Meaning → Option Fault
fault_of (Bad fault) = Some fault
fault_of _ = None

-- a run's commands and its environment, where there is no fault, else the first one
abbrev pub run_or_fault : List Meaning → List Fault → Result (List CommandLine × List Variable) Fault
run_or_fault lines [] = Ok (filter_map command_of lines, filter_map assigned_by lines)
run_or_fault lines (fault ∷ _) = Err fault

-- what a dry run says, by what its lines mean
abbrev pub run_of_meanings : List Meaning → Result (List CommandLine × List Variable) Fault
run_of_meanings lines = run_or_fault lines (filter_map fault_of lines)

-- what a dry run says: its commands and its environment, each in order, or the fault of its first bad line
abbrev pub dry_run_of : ℕ → List ℕ → List ℕ → LookUp → Result (List CommandLine × List Variable) Fault
dry_run_of run bytes cwd which = run_of_meanings (meanings which run cwd [] (numbered_lines bytes))

-- What a line says by itself, before its program is looked up.

-- a command, by the words of its line
abbrev pub stated_by_words : Option (List (List ℕ)) → Statement
stated_by_words None = statements.BadShell
stated_by_words (Some words) = statements.Runs words

-- a marked line, by what it assigns: a line that assigns nothing is a command
abbrev pub stated_assigned : List Variable → List ℕ → Option Variable → Statement
stated_assigned env text None = stated_by_words (shell_words (expanded env text))
stated_assigned env text (Some v) = statements.Sets v.0 v.1

-- a line, by the text behind its mark
abbrev pub stated_marked : List Variable → Option (List ℕ) → Statement
stated_marked env None = statements.Nothing
stated_marked env (Some text) = stated_assigned env text (assignment text)

-- a line of bytes behind these environment lines
abbrev pub stated : List Variable → List ℕ → Statement
stated env line = if is_utf8 line then stated_marked env (marked_text line) else statements.NotUtf8
