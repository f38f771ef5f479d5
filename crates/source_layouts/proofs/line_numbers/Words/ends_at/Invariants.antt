use Rattle.std.proofs.Common.{◌≡◌, drop}
use Rattle.source_layouts.specs.LineNumbers.{ends_at}
use Rattle.source_layouts.specs.WordSets.{has}
use Rattle.source_layouts.proofs.line_numbers.Words.ends_at.Given as goal

abbrev pub invariant-loop-start : goal.invariant-loop-start
invariant-loop-start l = ends_at (has l.self) l.text l.end l.start (drop l.start l.joined) ≡ ends_at (has l.self) l.text l.end 0 l.joined
