use Rattle.std.proofs.Common.{◌∙◌, sym, rules, map, string_bytes, tests}
use Rattle.std.proofs.lemmas.List.Folds.{list_all-map}
use Rattle.std.proofs.lemmas.Iterator.{YieldsList-from_slice}
use Rattle.std.proofs.lemmas.Iterator.Search.{all_from_yields_List}
use Rattle.compilers.specs.CommandLines.{line_seen}
use Rattle.canonical_names.specs.Alike.{is_clean_word}
use Rattle.canonical_names.specs.Renaming.{names_of_run}
use Rattle.canonical_names.proofs.clean.are_clean_words.Goals as goal

pub returns : goal.returns
returns c =
    let clean = is_clean_word c.args.suffixes.now (names_of_run c.args.suffixes.now (map line_seen c.args.commands.now)) in
    all_from_yields_List (λ x. clean (string_bytes x)) _ _ c.all.result c.all.ensures.ran
    (YieldsList-from_slice c.args.words.now (search rules)) (λ x b q k. search (rules, tests))
    ∙ sym (list_all-map clean string_bytes c.args.words.now)
