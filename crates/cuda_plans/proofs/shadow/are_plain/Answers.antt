use Rattle.std.proofs.Common.{◌∙◌, sym, rules, codes, tests}
use Rattle.std.proofs.lemmas.List.Folds.{list_all-map}
use Rattle.std.proofs.lemmas.Iterator.{YieldsList-from_slice}
use Rattle.std.proofs.lemmas.Iterator.Search.{all_from_yields_List}
use Rattle.texts.specs.Lists.{word_after}
use Rattle.compilers.specs.CommandLines.{line_seen, words_of_command}
use Rattle.cuda_plans.specs.Shadow.{is_plain_output}
use Rattle.cuda_plans.proofs.shadow.are_plain.Goals as goal

pub returns : goal.returns
returns c =
    let commands = c.args.commands.now in
    all_from_yields_List (λ x. is_plain_output (word_after (codes "-o") (words_of_command (line_seen x)))) _ _ c.all.result c.all.ensures.ran (YieldsList-from_slice commands (search rules)) (λ x b q k. search (rules, tests))
    ∙ sym (list_all-map (λ command. is_plain_output (word_after (codes "-o") (words_of_command command))) line_seen commands)
