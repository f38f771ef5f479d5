-- The command lines of a dry run.
use Rattle.std.specs.Prelude.{ℕ, List, Vec, String, map, string_bytes}
use Rattle.std.specs.declared.alloc.Global.{Global}

-- a command line: the number of its line, its program, and its words
abbrev pub CommandLine : Type 0
CommandLine = ℕ × List ℕ × List (List ℕ)

abbrev pub line_of : CommandLine → ℕ
line_of c = c.0

abbrev pub program_of : CommandLine → List ℕ
program_of c = c.1

abbrev pub words_of_command : CommandLine → List (List ℕ)
words_of_command c = c.2

-- a command line, as code holds it, seen as texts
abbrev pub line_seen : ℕ × String Global × Vec (String Global) Global → CommandLine
line_seen c = (c.0, string_bytes c.1, map string_bytes c.2.items)
