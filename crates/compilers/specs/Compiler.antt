-- What a reader of command lines answers.
use Rattle.std.specs.Prelude.{ℕ, List, Option}
use Rattle.compilers.specs.declared.arguments.ParsedArguments.{ParsedArguments}
use Rattle.compilers.specs.declared.arguments.CompilerArguments.{CompilerArguments}
use Rattle.compilers.specs.declared.arguments.CompilerArguments.TheVariants as answer

-- what a reader answers: arguments, the text of what no cache can serve with a word on it, or that the line is no
-- compilation
pub data Reading : Type 0 where
  accepted : ParsedArguments → Reading
  cannot_cache : List ℕ → Option (List ℕ) → Reading
  not_compilation : Reading

-- the same, as the code has it
abbrev pub reading_of : CompilerArguments ParsedArguments → Reading
reading_of (answer.Ok arguments) = accepted arguments
reading_of (answer.CannotCache text word) = cannot_cache text.now word
reading_of answer.NotCompilation = not_compilation
