use Rattle.std.proofs.Common.{◌∙◌, sym, rules, string_bytes, tests}
use Rattle.std.proofs.lemmas.List.Folds.{list_all-map}
use Rattle.std.proofs.lemmas.Iterator.{YieldsList-from_slice}
use Rattle.std.proofs.lemmas.Iterator.Search.{all_from_yields_List}
use Rattle.canonical_names.specs.SuffixRule.{is_suffix}
use Rattle.canonical_names.proofs.suffixes.are_each_suffixes.Goals as goal

pub returns : goal.returns
returns c =
    all_from_yields_List (λ x. is_suffix (string_bytes x)) _ _ c.all.result c.all.ensures.ran
    (YieldsList-from_slice c.args.list.now (search rules)) (λ x b q k. search (rules, tests))
    ∙ sym (list_all-map is_suffix string_bytes c.args.list.now)
