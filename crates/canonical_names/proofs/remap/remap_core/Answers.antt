use Rattle.std.proofs.Common.{◌≡◌, ℕ, List, ◌∙◌, ap, sym, Option, Some, String, string_bytes, option_map, Global}
use Rattle.std.proofs.lemmas.Result.{IfOk-weaker, on_ok_weaker}
use Rattle.texts.specs.Lists.{with_name}
use Rattle.canonical_names.specs.Counted.{class_of_core}
use Rattle.canonical_names.specs.Generated.{class_of_name}
use Rattle.canonical_names.specs.Renaming as spec
use Rattle.canonical_names.proofs.CanonicalLemmas.{canonical-at}
use Rattle.canonical_names.proofs.CountedLemmas.{class-at}
use Rattle.canonical_names.proofs.remap.remap_core.Goals as goal

pub returns-in-Some-clause-text : goal.returns-in-Some-clause-text
returns-in-Some-clause-text c =
    let names = c.args.renames.now in
    let text = c.args.text.now in
    let at = class-at names.0 c.in-Some.class c.in-Some.ensures.within in
    let core : class_of_core names.0 text ≡ Some at.0 = c.in-Some.ensures.none ∙ at.1 in
    let name : class_of_name names.0 text ≡ Some at.0 = c.in-Some.ensures.name ∙ at.1 in
    IfOk-weaker c.canonical.result (λ (t : String Global). string_bytes t ≡ spec.canonical_name names.0 names.1 text) (λ (t : String Global). string_bytes t ≡ spec.renamed_core names.0 names.1 text (class_of_core names.0 text))
    (λ t is. is ∙ canonical-at names.0 names.1 text at.0 name ∙ ap (spec.renamed_core names.0 names.1 text) (sym core)) c.canonical.ensures.name

pub returns-in-Some-clause-names : goal.returns-in-Some-clause-names
returns-in-Some-clause-names c =
    let names = c.args.renames.now in
    let text = c.args.text.now in
    let at = class-at names.0 c.in-Some.class c.in-Some.ensures.within in
    on_ok_weaker c.canonical.result (λ is. is ∙ ap (λ (o : Option (List ℕ)). (names.0, with_name names.1 (option_map (λ _. text) o))) (sym (c.in-Some.ensures.none ∙ at.1))) c.canonical.ensures.names
