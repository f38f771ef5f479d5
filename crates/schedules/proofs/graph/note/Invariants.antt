use Rattle.std.proofs.Common.{◌≡◌, length, drop, map, vec_items}
use Rattle.schedules.specs.Graphs.{noted}
use Rattle.schedules.proofs.graph.note.Given as goal

abbrev pub invariant-loop-need : goal.invariant-loop-need
invariant-loop-need l = record {
  as_many : length l.rows.items ≡ length l.initial.rows.items;
  noted_is : noted l.number (map vec_items l.rows.items) (drop l.need-index l.needed) ≡ noted l.number (map vec_items l.initial.rows.items) l.needed;
}
