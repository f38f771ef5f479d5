use Rattle.std.proofs.Common.{◌∙◌, ap, map, nat_cmp}
use Rattle.std.specs.Cmp.Lexicographic.{slice_cmp}
use Rattle.std.specs.BTreeMap.{insert_entry}
use Rattle.texts.proofs.ListLemmas.{map-insert_entry}
use Rattle.compilers.proofs.outputs.Outputs.insert.Goals as goal

pub returns-clause-ok : goal.returns-clause-ok
returns-clause-ok c =
    ap (map (λ e. (e.0.now, e.1))) c.in_ok-insert.ensures.entries ∙ map-insert_entry (λ k. k.now) (slice_cmp nat_cmp) c.self.inside.files.entries c.args.key c.args.output ∙ ap (λ es. insert_entry (slice_cmp nat_cmp) es c.args.key.now c.args.output) c.self.view_is
