use Rattle.std.proofs.Common.{◌≡◌, ◌++◌, length, drop, map, vec_items}
use Rattle.schedules.proofs.graph.counts_of.Given as goal

abbrev pub invariant-loop-needed : goal.invariant-loop-needed
invariant-loop-needed l = l.counts.items ++ map length (map vec_items (drop l.needed-index l.needs)) ≡ map length (map vec_items l.needs)
