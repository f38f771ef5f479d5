use Rattle.std.proofs.Common.{◌≡◌, [], map, replicate, vec_items}
use Rattle.schedules.proofs.graph.empty_rows.Given as goal

abbrev pub invariant-loop : goal.invariant-loop
invariant-loop l = map vec_items l.rows.items ≡ replicate l.counter []
