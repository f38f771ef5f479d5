-- The commands of one dry run that a caller selects, and the environment behind the run.
use Rattle.std.specs.Prelude.{◌≡◌, ℕ, List, Bool, Result, Ok, Err, if◌then◌else◌, IsUtf8}
use Rattle.std.specs.Borrow.{Bor}
use Rattle.texts.specs.declared.fault.Fault.{Fault}
use Rattle.compilers.specs.CommandLines.{CommandLine}
use Rattle.dry_runs.specs.Environment.{Variable, with_variables}
use Rattle.canonical_names.specs.Renaming.{renamed}
use Rattle.command_groups.specs.Merge.{selected}

-- what a dry run says, or why it can't be read
abbrev pub Read : Type 0
Read = Result (List CommandLine × List Variable) Fault

-- the commands of a run, with canonical names where asked: the names of all commands count
abbrev pub named_if : List (List ℕ) → Bool → List CommandLine → List CommandLine
named_if suffixes remap commands = if remap then renamed suffixes commands else commands

-- the commands of a run whose program has a stem that passes a test
abbrev pub selection_of : List (List ℕ) → Bool → (List ℕ → Bool) → Read → Result (List CommandLine) Fault
selection_of suffixes remap test (Err fault) = Err fault
selection_of suffixes remap test (Ok said) = Ok (selected test (named_if suffixes remap said.0))

-- an environment with what a run sets folded in
abbrev pub environment_behind : List Variable → Read → Result (List Variable) Fault
environment_behind env (Err fault) = Err fault
environment_behind env (Ok said) = Ok (with_variables env said.1)

-- an environment, where a call answers no fault
abbrev pub environment_after_call : {T : Type 0} → Result T Fault → List Variable → Result (List Variable) Fault
environment_after_call (Ok x) env = Ok env
environment_after_call (Err fault) env = Err fault

-- what a closure can answer of a text is what a test says of it
abbrev pub AnswersAs : (Bor (List ℕ) → Bool → Type 0) → (List ℕ → Bool) → Type 0
AnswersAs post test = (text : Bor (List ℕ)) (answer : Bool) → IsUtf8 text.now → post text answer → answer ≡ test text.now
