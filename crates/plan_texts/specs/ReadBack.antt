-- What a POSIX shell reads in a command's text, and in a script. Its grammar (`Posix` of `texts`) has no reading for a text on
-- which a shell would act.
use Rattle.std.specs.Prelude.{◌≡◌, ℕ, List, [], ◌∷◌, ◌++◌, map, Option, Some, codes, IsUtf8, chars}
use Rattle.std.specs.List.{AllByRecursion, flat_map}
use Rattle.texts.specs.Posix.{Token, Word, Operator, tokens}
use Rattle.texts.specs.Shell.Quoting.{written}
use Rattle.compilers.specs.declared.plans.plan.NvccGeneratedSubcommand.{NvccGeneratedSubcommand}
use Rattle.compilers.specs.Listed.{Listed}
use Rattle.plan_texts.specs.CommandText.{command_text, env_words}
use Rattle.plan_texts.specs.Script.{script}

-- all texts of a command are UTF-8, as in every record of the program
pub record IsOfTexts (c : NvccGeneratedSubcommand) : Type 0 where
  pub cwd : IsUtf8 c.cwd
  pub variables : AllByRecursion (λ p. IsUtf8 p.0 × IsUtf8 p.1) c.env_vars
  pub exe : IsUtf8 c.exe
  pub args : AllByRecursion IsUtf8 c.args

-- the words and operators of a text, if it has a reading
abbrev pub shell_tokens : List ℕ → Option (List Token)
shell_tokens text = tokens (chars text)

abbrev pub word_tokens : List (List ℕ) → List Token
word_tokens words = map (λ word. Word (chars word)) words

-- a command in a shell of its own: its directory, its variables, the words of what runs it, its program and its words
abbrev pub command_tokens : List (List ℕ) → NvccGeneratedSubcommand → List Token
command_tokens runner c =
    Operator (codes "(") ∷ Word (codes "cd") ∷ Word (chars c.cwd) ∷ Operator (codes "&&")
    ∷ (word_tokens (env_words c) ++ (word_tokens runner ++ (word_tokens (c.exe ∷ c.args) ++ Operator (codes ")") ∷ [])))

-- words in the place of what runs a command
abbrev pub in_front : List (List ℕ) → List ℕ
in_front words = flat_map (λ word. written (word ∷ []) ++ 32 ∷ []) words

-- a shell reads a command's text as the command, whatever words run it
abbrev pub CommandsReadBack : Type 0
CommandsReadBack =
    (runner : List (List ℕ)) (c : NvccGeneratedSubcommand) → AllByRecursion IsUtf8 runner → IsOfTexts c →
    shell_tokens (command_text (in_front runner) c) ≡ Some (command_tokens runner c)

-- a script's line
abbrev pub line_tokens : NvccGeneratedSubcommand → List Token
line_tokens c = command_tokens [] c ++ Operator (codes "\n") ∷ []

-- a script's first lines: `set -e`, and `mkdir -p` with a directory
abbrev pub head_tokens : List ℕ → List Token
head_tokens tmp =
    Word (codes "set") ∷ Word (codes "-e") ∷ Operator (codes "\n")
    ∷ Word (codes "mkdir") ∷ Word (codes "-p") ∷ Word (chars tmp) ∷ Operator (codes "\n") ∷ []

-- a script makes the temporary directory and then runs each command, in order
abbrev pub ScriptsReadBack : Type 0
ScriptsReadBack =
    (tmp : List ℕ) (commands : List Listed) → IsUtf8 tmp → AllByRecursion (λ l. IsOfTexts l.command) commands →
    shell_tokens (script tmp commands) ≡ Some (head_tokens tmp ++ flat_map (λ l. line_tokens l.command) commands)
