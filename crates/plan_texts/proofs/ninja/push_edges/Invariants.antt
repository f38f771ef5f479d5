use Rattle.std.proofs.Common.{◌≡◌, ◌++◌, string_bytes, vec_items, map, drop}
use Rattle.plan_texts.specs.Graph.{edges_from}
use Rattle.plan_texts.proofs.ninja.push_edges.Given as goal

abbrev pub invariant-loop-number : goal.invariant-loop-number
invariant-loop-number l =
    string_bytes l.text ++ edges_from l.tmp l.places (map vec_items l.needs) l.number (drop l.number l.commands)
    ≡ string_bytes l.fn.text ++ edges_from l.tmp l.places (map vec_items l.needs) 0 l.commands
