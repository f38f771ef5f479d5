-- A plan as a shell script.
use Rattle.std.specs.Prelude.{ℕ, List, [], ◌∷◌, ◌++◌, codes, if◌then◌else◌, Result, Ok, Err, flat_map}
use Rattle.compilers.specs.declared.plans.plan.NvccGeneratedSubcommand.{NvccGeneratedSubcommand}
use Rattle.compilers.specs.declared.plans.plan.Plan.{Plan}
use Rattle.compilers.specs.Listed.{Listed, listed}
use Rattle.plan_texts.specs.declared.refusal.Refusal.{Refusal}
use Rattle.plan_texts.specs.declared.refusal.Refusal.TheVariants.{Unheld}
use Rattle.plan_texts.specs.declared.format.Format.TheVariants.{Shell}
use Rattle.texts.specs.Shell.Quoting.{written}
use Rattle.plan_texts.specs.Judging.{holds_text, and_then, judged_commands}
use Rattle.plan_texts.specs.CommandText.{command_text}

-- a command's line
abbrev pub command_line : NvccGeneratedSubcommand → List ℕ
command_line c = command_text [] c ++ 10 ∷ []

-- the lines of commands, in order
abbrev pub lines : List Listed → List ℕ
lines commands = flat_map (λ l. command_line l.command) commands

-- the line that makes a directory, unless it is there
abbrev pub folder_line : List ℕ → List ℕ
folder_line tmp = codes "mkdir -p " ++ (written (tmp ∷ []) ++ 10 ∷ [])

-- The script of commands. It makes the temporary directory, where some of them run, and stops at the first one that fails.
abbrev pub script : List ℕ → List Listed → List ℕ
script tmp commands = codes "set -e\n" ++ (folder_line tmp ++ lines commands)

-- a text, unless there is a refusal
abbrev pub unless_refused : Result (Unit {0}) Refusal → List ℕ → Result (List ℕ) Refusal
unless_refused (Ok _) text = Ok text
unless_refused (Err refusal) text = Err refusal

-- why a script can't represent the temporary directory, if it can't
abbrev pub judged_folder : List ℕ → Result (Unit {0}) Refusal
judged_folder tmp = if holds_text Shell tmp then Ok tt else Err Unheld

-- the script of a plan, or why there is none
abbrev pub shell_answer : List ℕ → Plan → Result (List ℕ) Refusal
shell_answer tmp plan =
    unless_refused (and_then (judged_folder tmp) (judged_commands Shell (listed plan.groups))) (script tmp (listed plan.groups))
