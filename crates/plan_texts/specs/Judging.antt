-- Which plans a format can represent, of those whose commands a shell runs.
use Rattle.std.specs.Prelude.{ℕ, List, [], ◌∷◌, Bool, false, ◌==◌, ◌&&◌, not, if◌then◌else◌, Result, Ok, Err}
use Rattle.std.specs.List.{list_all}
use Rattle.texts.specs.Path.{lacks}
use Rattle.compilers.specs.declared.plans.plan.NvccGeneratedSubcommand.{NvccGeneratedSubcommand}
use Rattle.compilers.specs.Listed.{Listed}
use Rattle.plan_texts.specs.declared.refusal.Refusal.{Refusal}
use Rattle.plan_texts.specs.declared.refusal.Refusal.TheVariants.{Unheld, VariableName, Program}
use Rattle.plan_texts.specs.declared.format.Format.{Format}
use Rattle.plan_texts.specs.declared.format.Format.TheVariants.{Ninja}

-- whether such a format can represent a byte: none can represent NUL, and a line of a Ninja file no end of a line either
abbrev pub holds : Format → ℕ → Bool
holds Ninja byte = not (byte == 0) && (not (byte == 10) && not (byte == 13))
holds format byte = not (byte == 0)

abbrev pub holds_text : Format → List ℕ → Bool
holds_text format text = list_all (holds format) text

-- whether a format can represent the name and the value of each variable
abbrev pub holds_variables : Format → List (List ℕ × List ℕ) → Bool
holds_variables format variables = list_all (λ p. holds_text format p.0 && holds_text format p.1) variables

-- whether a format can represent all texts of a command
abbrev pub holds_command : Format → NvccGeneratedSubcommand → Bool
holds_command format c =
    holds_text format c.cwd && (holds_variables format c.env_vars && (holds_text format c.exe && list_all (holds_text format) c.args))

-- whether `env` takes a word for a program, or for the name of a variable if `=` and a value follow: the word is no option,
-- and has no `=` of its own
abbrev pub is_for_env : List ℕ → Bool
is_for_env [] = false
is_for_env (first ∷ rest) = not (first == 45) && lacks 61 (first ∷ rest)

-- why a format can't represent a command, if it can't
abbrev pub judged_command : Format → NvccGeneratedSubcommand → Result (Unit {0}) Refusal
judged_command format c =
    if not (holds_command format c) then Err Unheld else
    if not (list_all (λ p. is_for_env p.0) c.env_vars) then Err VariableName else
    if not (is_for_env c.exe) then Err Program else Ok tt

-- the first of two refusals
abbrev pub and_then : Result (Unit {0}) Refusal → Result (Unit {0}) Refusal → Result (Unit {0}) Refusal
and_then (Ok _) next = next
and_then (Err refusal) next = Err refusal

-- the first refusal of commands
abbrev pub judged_commands : Format → List Listed → Result (Unit {0}) Refusal
judged_commands format [] = Ok tt
judged_commands format (l ∷ commands) = and_then (judged_command format l.command) (judged_commands format commands)
