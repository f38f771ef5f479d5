use Rattle.std.proofs.Common.{Some, map, vec_items, ap, ◌∙◌}
use Rattle.texts.specs.Lists.{with_name}
use Rattle.dependency_rules.proofs.NoteLemmas.{names-noted}
use Rattle.dependency_rules.proofs.files.note.Goals as goal

pub returns : goal.returns
returns c =
    ap (map vec_items) c.in_ok-insert_full.ensures.keys ∙ names-noted c.args.names.now.keys c.in_ok-from_slice.field-0
    ∙ ap (λ name. with_name (map vec_items c.args.names.now.keys) (Some name)) c.in_ok-from_slice.ensures.items
