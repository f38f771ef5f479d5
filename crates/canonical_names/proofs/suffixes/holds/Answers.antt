use Rattle.std.proofs.Common.{◌∙◌, sym, rules, string_bytes, bytes_eq, tests}
use Rattle.std.proofs.lemmas.Iterator.{YieldsList-from_slice}
use Rattle.std.proofs.lemmas.Iterator.Search.{any_from_yields_List}
use Rattle.canonical_names.proofs.SuffixLemmas.{list_any-map}
use Rattle.canonical_names.proofs.suffixes.holds.Goals as goal

pub returns : goal.returns
returns c =
    any_from_yields_List (λ x. bytes_eq c.args.suffix.now (string_bytes x)) _ _ c.any.result c.any.ensures.ran
    (YieldsList-from_slice c.args.list.now (search rules)) (λ x b q k. search (rules, tests))
    ∙ sym (list_any-map (bytes_eq c.args.suffix.now) string_bytes c.args.list.now)
