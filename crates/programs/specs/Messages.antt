-- What a program says when it stops.
use Rattle.std.specs.Prelude.{ℕ, List, ◌++◌, codes}
use Rattle.texts.specs.Fault.{message_of as fault_text}
use Rattle.programs.specs.declared.stop.Stop.{Stop}
use Rattle.programs.specs.declared.stop.Stop.TheVariants as stops

-- why a program stops, as text
abbrev pub message_of : Stop → List ℕ
message_of (stops.Fault fault) = fault_text fault
message_of stops.NotCompilation = codes "not a compilation"
message_of stops.Write = codes "cannot write"

-- the line that a program writes to standard error
abbrev pub complaint : List ℕ → Stop → List ℕ
complaint program stop = program ++ (codes ": " ++ (message_of stop ++ codes "\n"))
