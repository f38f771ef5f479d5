-- ptxas's options, and what its lines are read as.
use Rattle.std.specs.Prelude.{ℕ, List, [], ◌∷◌, Option, Some, codes}
use Rattle.compilers.specs.declared.arguments.ParsedArguments.{ParsedArguments}
use Rattle.texts.specs.declared.language.Language.TheVariants.{Cubin}
use Rattle.compilers.specs.declared.table.ArgDisposition.TheVariants.{CanBeSeparated}
use Rattle.compilers.specs.Compiler.{Reading}
use Rattle.compilers.specs.Table.{Entry, longest_match}
use Rattle.device_lines.specs.declared.options.ArgData.{ArgData}
use Rattle.device_lines.specs.declared.options.ArgData.TheVariants.{Output, PassThrough}
use Rattle.device_lines.specs.Reading.{separated, reading, tool_reading}

-- an option whose value is the next word, or joined to it by `=`, which is the byte 61
abbrev pub separated_or_equals : List ℕ → ArgData → Entry ArgData
separated_or_equals text kind = record { text = text; kind = kind; form = Some (CanBeSeparated (Some 61)) }

-- ptxas's option table
abbrev pub ptxas_options : List (Entry ArgData)
ptxas_options =
    separated_or_equals (codes "-arch") PassThrough ∷
    separated_or_equals (codes "-m") PassThrough ∷
    separated (codes "-o") Output ∷
    []

-- what a ptxas line is read as at a working directory; if no word ends like the input, that is the third word from the end,
-- because a line ends in the input, `-o` and the output
abbrev pub ptxas_reading : List ℕ → List (List ℕ) → Option ParsedArguments
ptxas_reading cwd words = reading (longest_match ptxas_options) cwd Cubin 3 words

-- the same, as a compiler's answer
abbrev pub ptxas_answer : List ℕ → List (List ℕ) → Reading
ptxas_answer cwd words = tool_reading ptxas_options cwd Cubin 3 words
