use Rattle.std.proofs.Common.{◌<◌, ◌++◌, ◌∷◌, [], List, ℕ, length, set, map, vec_items, refl, ap, ◌∙◌, arith}
use Rattle.std.proofs.lemmas.List.{map-set, length-map}
use Rattle.schedules.proofs.KeptLemmas.{row_is}
use Rattle.schedules.proofs.graph.note_at.Goals as goal

pub returns : goal.returns
returns c =
    let rows : List (List ℕ) = map vec_items c.args.rows.now.items in
    let there : c.args.need < length rows = omega (arith, c.requires, length-map c.args.rows.now.items vec_items) in
    map-set vec_items c.args.rows.now.items c.args.need c.push.new.self
    ∙ ap (set rows c.args.need) (c.in_ok-push.ensures.items ∙ ap (λ r. r ++ c.args.number ∷ []) (row_is vec_items c.args.rows.now.items c.args.need c.index_mut-row.result.now c.index_mut-row.result.now.items there c.index_mut-row.ensures.value refl))
