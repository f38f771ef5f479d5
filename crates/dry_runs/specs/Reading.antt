-- What reading a dry run has gathered, and how one more line changes it.
use Rattle.std.specs.Prelude.{◌≡◌, ℕ, List, [], ◌∷◌, ◌++◌, true, Option, Some, None, Result, Ok, Err, String, string_bytes}
use Rattle.std.specs.Borrow.{Bor}
use Rattle.std.specs.declared.alloc.Global.{Global}
use Rattle.texts.specs.Path.{lacks}
use Rattle.texts.specs.declared.fault.Fault.{Fault}
use Rattle.texts.specs.declared.fault.Fault.TheVariants.{Memory, NotFound}
use Rattle.texts.specs.declared.fault.Fault.TheVariants as faults
use Rattle.compilers.specs.declared.dry_run.DryRun.{DryRun}
use Rattle.dry_runs.specs.declared.parsed.ParsedRun.{ParsedRun}
use Rattle.dry_runs.specs.declared.reader.Said.{Said}
use Rattle.compilers.specs.CommandLines.{CommandLine}
use Rattle.dry_runs.specs.Environment.{Variable}
use Rattle.dry_runs.specs.declared.statement.Statement.{Statement}
use Rattle.dry_runs.specs.declared.statement.Statement.TheVariants.{Nothing, Sets}
use Rattle.dry_runs.specs.declared.statement.Statement.TheVariants as statements
use Rattle.dry_runs.specs.declared.limit.LimitedFault.{LimitedFault}
use Rattle.dry_runs.specs.declared.limit.LimitedFault.TheVariants.{TooLong}
use Rattle.dry_runs.specs.declared.limit.LimitedFault.TheVariants as limited
use Rattle.dry_runs.specs.Limit.{held_by, left_behind}
use Rattle.dry_runs.specs.DryRun.{LookUp, Meaning, Ignored, Assigns, Runs, Bad, meaning_of_words}

-- the texts of a name and a value that are lent
abbrev pub texts_of : Bor (List ℕ) × Bor (List ℕ) → Variable
texts_of p = (p.0.now, p.1.now)

-- a text is cut at its first mark, if it holds one
abbrev pub IsCutAt : ℕ → List ℕ → Option (Bor (List ℕ) × Bor (List ℕ)) → Type 0
IsCutAt mark text None = lacks mark text ≡ true
IsCutAt mark text (Some parts) = (text ≡ parts.0.now ++ mark ∷ parts.1.now) × (lacks mark parts.0.now ≡ true)

-- what a dry run says, as texts
abbrev pub run_seen : DryRun → List CommandLine × List Variable
run_seen run = (run.commands, run.env)

-- what reading a dry run answers, as texts
abbrev pub dry_run_seen : Result DryRun Fault → Result (List CommandLine × List Variable) Fault
dry_run_seen (Ok run) = Ok (run_seen run)
dry_run_seen (Err fault) = Err fault

-- what reading a dry run within a limit answers, as texts
abbrev pub dry_run_seen_within : Result DryRun LimitedFault → Result (List CommandLine × List Variable) LimitedFault
dry_run_seen_within (Ok run) = Ok (run_seen run)
dry_run_seen_within (Err fault) = Err fault

-- what looking a program up answers, as a text
abbrev pub found_seen : Result (String Global) Fault → Result (List ℕ) Fault
found_seen (Ok path) = Ok (string_bytes path)
found_seen (Err fault) = Err fault

-- a program's path, where it was found
abbrev pub found_or_fault : List ℕ → Option (List ℕ) → Result (List ℕ) Fault
found_or_fault program None = Err (NotFound program)
found_or_fault program (Some path) = Ok path

-- what a line means, by what it says: a command's program is looked up
abbrev pub meaning_stated : LookUp → ℕ → List ℕ → ℕ → List Variable → Statement → Meaning
meaning_stated which run cwd line env Nothing = Ignored
meaning_stated which run cwd line env (Sets name value) = Assigns (name, value)
meaning_stated which run cwd line env (statements.Runs words) = meaning_of_words which run cwd line env (Some words)
meaning_stated which run cwd line env statements.BadShell = Bad (faults.BadShell run line)
meaning_stated which run cwd line env statements.NotUtf8 = Bad (faults.NotUtf8 run line)

-- the run that lines are, and why the next one is bad, if it is
abbrev pub said_parsed : Said → Option Fault → ParsedRun
said_parsed s fault = record { commands = s.commands; env = s.env; fault = fault }

-- the run that lines are, if the next one is bad
abbrev pub said_ended : Said → LimitedFault → Result ParsedRun LimitedFault
said_ended s (limited.Fault Memory) = Err (limited.Fault Memory)
said_ended s (limited.Fault fault) = Ok (said_parsed s (Some fault))
said_ended s (TooLong run line) = Err (TooLong run line)

-- one more line, by what it means
abbrev pub said_next : Said → Meaning → Result Said Fault
said_next s Ignored = Ok s
said_next s (Assigns v) = Ok (record { commands = s.commands; env = s.env ++ v ∷ [] })
said_next s (Runs command) = Ok (record { commands = s.commands ++ command ∷ []; env = s.env })
said_next s (Bad fault) = Err fault

-- what is gathered behind a line and what is left of the limit, where the line was read
abbrev pub said_left : Result ℕ LimitedFault → Said → Result (Said × ℕ) LimitedFault
said_left (Ok left) s = Ok (s, left)
said_left (Err fault) s = Err fault

-- the same, by what is left behind the line and by what is gathered without a limit
abbrev pub next_within : ℕ → ℕ → Option ℕ → Result Said Fault → Result (Said × ℕ) LimitedFault
next_within run number None said = Err (TooLong run number)
next_within run number (Some left) (Ok s) = Ok (s, left)
next_within run number (Some left) (Err fault) = Err (limited.Fault fault)

-- one more line whose texts fit, by what it means and by what was left before it
abbrev pub next_held : ℕ → ℕ → ℕ → Said → Meaning → Result (Said × ℕ) LimitedFault
next_held run number left s m = next_within run number (left_behind left (held_by m)) (said_next s m)
