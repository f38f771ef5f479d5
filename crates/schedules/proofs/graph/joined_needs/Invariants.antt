use Rattle.std.proofs.Common.{◌≡◌, ◌++◌, length, drop, map, vec_items}
use Rattle.schedules.specs.Graphs.{joined_from}
use Rattle.schedules.proofs.graph.joined_needs.Given as goal

abbrev pub invariant-loop-plan : goal.invariant-loop-plan
invariant-loop-plan l = map vec_items l.joined.items ++ joined_from (length (map vec_items l.joined.items)) (map (λ p. map vec_items p.now) (drop l.plan-index l.plans)) ≡ joined_from 0 (map (λ p. map vec_items p.now) l.plans)
