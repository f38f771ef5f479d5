use Rattle.std.proofs.Common.{◌≡◌, map, drop}
use Rattle.source_layouts.specs.LineNumbers.{has_all, shown}
use Rattle.source_layouts.specs.WordSets.{has}
use Rattle.source_layouts.proofs.line_numbers.Words.has_all.Given as goal

abbrev pub invariant-loop-word : goal.invariant-loop-word
invariant-loop-word l = has_all (has l.self) (map shown (drop l.word-index l.words)) ≡ has_all (has l.self) (map shown l.words)
