use Rattle.std.proofs.Common.{◌≡◌, [], length, drop, map, replicate, vec_items, None}
use Rattle.schedules.specs.Graphs.{all_noted, first_late}
use Rattle.schedules.proofs.graph.dependents_of.Given as goal

abbrev pub invariant-loop-number : goal.invariant-loop-number
invariant-loop-number l = record {
  as_many : length l.rows.items ≡ length l.needs;
  in_time : first_late l.number (drop l.number (map vec_items l.needs)) ≡ None;
  noted_is : all_noted l.number (map vec_items l.rows.items) (drop l.number (map vec_items l.needs)) ≡ all_noted 0 (replicate (length l.needs) []) (map vec_items l.needs);
}
