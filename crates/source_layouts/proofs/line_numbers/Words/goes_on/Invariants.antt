use Rattle.std.proofs.Common.{◌≡◌, map, drop}
use Rattle.std.specs.List.{list_all}
use Rattle.source_layouts.specs.LineNumbers.{goes_on, defined}
use Rattle.source_layouts.specs.WordSets.{has}
use Rattle.source_layouts.proofs.line_numbers.Words.goes_on.Given as goal

abbrev pub invariant-loop-it : goal.invariant-loop-it
invariant-loop-it l = list_all (goes_on (has l.self)) (map defined (drop l.it-index l.macros)) ≡ list_all (goes_on (has l.self)) (map defined l.macros)
