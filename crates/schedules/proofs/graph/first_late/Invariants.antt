use Rattle.std.proofs.Common.{◌≡◌, drop, map, vec_items}
use Rattle.schedules.specs.Graphs.{first_late}
use Rattle.schedules.proofs.graph.first_late.Given as goal

abbrev pub invariant-loop-number : goal.invariant-loop-number
invariant-loop-number l = first_late l.number (drop l.number (map vec_items l.needs)) ≡ first_late 0 (map vec_items l.needs)
