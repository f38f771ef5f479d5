use Rattle.std.proofs.Common.{◌∙◌, ap, bytes_eq}
use Rattle.std.proofs.lemmas.Map.Text.{is_eq-slice_cmp}
use Rattle.compilers.specs.Outputs.{entry_at}
use Rattle.texts.proofs.ListLemmas.{lookup-map}
use Rattle.compilers.proofs.outputs.Outputs.get.Goals as goal

pub returns : goal.returns
returns c =
    c.get.ensures.value ∙ lookup-map (λ k. k.now) _ (bytes_eq c.args.key.now) (λ k. is_eq-slice_cmp c.args.key.now k.now) c.self.inside.files.entries ∙ ap (entry_at c.args.key.now) c.self.view_is
