use Rattle.std.proofs.Common.{◌≡◌, ◌++◌, drop, map, vec_items}
use Rattle.schedules.specs.Graphs.{moved}
use Rattle.schedules.proofs.graph.push_moved.Given as goal

abbrev pub invariant-loop-needed : goal.invariant-loop-needed
invariant-loop-needed l = map vec_items l.joined.items ++ map (map (moved l.offset)) (map vec_items (drop l.needed-index l.plan)) ≡ map vec_items l.initial.joined.items ++ map (map (moved l.offset)) (map vec_items l.plan)
