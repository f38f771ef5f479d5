-- The text of a command, as a shell runs it.
use Rattle.std.specs.Prelude.{ℕ, List, [], ◌∷◌, ◌++◌, map, codes}
use Rattle.texts.specs.Shell.Quoting.{written}
use Rattle.compilers.specs.declared.plans.plan.NvccGeneratedSubcommand.{NvccGeneratedSubcommand}

-- a variable as `env` takes it
abbrev pub assignment : List ℕ × List ℕ → List ℕ
assignment p = p.0 ++ 61 ∷ p.1

-- `env` and a command's variables
abbrev pub env_words : NvccGeneratedSubcommand → List (List ℕ)
env_words c = codes "env" ∷ map assignment c.env_vars

-- A command's text, with a launcher's text before its program. It runs in a shell of its own, so one command's directory
-- isn't the next one's, and it fails if its directory is missing. `env` sets the variables, because a shell takes no quoted
-- word for an assignment, and because a variable of the environment may have a name that no shell variable can have.
abbrev pub command_text : List ℕ → NvccGeneratedSubcommand → List ℕ
command_text launcher c =
    codes "( cd " ++ (written (c.cwd ∷ []) ++ (codes " && " ++ (written (env_words c)
    ++ (codes " " ++ (launcher ++ (written (c.exe ∷ c.args) ++ codes " )"))))))
