use Rattle.std.proofs.Common.{◌≡◌, map, drop}
use Rattle.std.specs.List.{list_all}
use Rattle.source_layouts.specs.LineNumbers.{has_joined, defined}
use Rattle.source_layouts.specs.WordSets.{has}
use Rattle.source_layouts.proofs.line_numbers.Words.has_joined.Given as goal

abbrev pub invariant-loop-it : goal.invariant-loop-it
invariant-loop-it l =
    list_all (λ m. has_joined (has l.self) m.name) (map defined (drop l.it-index l.macros)) ≡ list_all (λ m. has_joined (has l.self) m.name) (map defined l.macros)
