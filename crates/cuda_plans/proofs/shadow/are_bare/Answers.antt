use Rattle.std.proofs.Common.{◌∙◌, sym, rules, tests}
use Rattle.std.proofs.lemmas.List.Folds.{list_all-map}
use Rattle.std.proofs.lemmas.Iterator.{YieldsList-from_slice}
use Rattle.std.proofs.lemmas.Iterator.Search.{all_from_yields_List}
use Rattle.texts.specs.Path.{is_bare}
use Rattle.canonical_names.specs.Shown.{name_shown}
use Rattle.cuda_plans.proofs.shadow.are_bare.Goals as goal

pub returns : goal.returns
returns c =
    all_from_yields_List (λ x. is_bare (name_shown x)) _ _ c.all.result c.all.ensures.ran (YieldsList-from_slice c.args.names.now (search rules)) (λ x b q k. search (rules, tests))
    ∙ sym (list_all-map is_bare name_shown c.args.names.now)
