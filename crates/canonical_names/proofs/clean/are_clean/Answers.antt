use Rattle.std.proofs.Common.{◌∙◌, sym, rules, map, tests}
use Rattle.std.specs.List.{list_all}
use Rattle.std.proofs.lemmas.List.Folds.{list_all-map}
use Rattle.std.proofs.lemmas.Iterator.{YieldsList-from_slice}
use Rattle.std.proofs.lemmas.Iterator.Search.{all_from_yields_List}
use Rattle.compilers.specs.CommandLines.{line_seen, words_of_command}
use Rattle.canonical_names.specs.Alike.{is_clean_word}
use Rattle.canonical_names.specs.Renaming.{names_of_run}
use Rattle.canonical_names.proofs.clean.are_clean.Goals as goal

pub returns : goal.returns
returns c =
    let clean = is_clean_word c.args.suffixes.now (names_of_run c.args.suffixes.now (map line_seen c.args.commands.now)) in
    all_from_yields_List (λ x. list_all clean (words_of_command (line_seen x))) _ _ c.all.result c.all.ensures.ran
    (YieldsList-from_slice c.args.commands.now (search rules)) (λ x b q k. search (rules, tests))
    ∙ sym (list_all-map (λ command. list_all clean (words_of_command command)) line_seen c.args.commands.now)
