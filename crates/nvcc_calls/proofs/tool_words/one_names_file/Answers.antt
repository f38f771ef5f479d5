use Rattle.std.proofs.Common.{rules, tests}
use Rattle.std.proofs.lemmas.Iterator.Search.{any_from_yields_List}
use Rattle.std.proofs.lemmas.Iterator.Splits.{YieldsList-from_slice_split}
use Rattle.nvcc_calls.specs.ToolWords.{is_between, part_names_file}
use Rattle.nvcc_calls.proofs.tool_words.one_names_file.Goals as goal

pub returns : goal.returns
returns c =
    any_from_yields_List part_names_file _ _ _ c.any.ensures.ran
    (YieldsList-from_slice_split _ is_between c.args.value.now c.split.ensures.rest c.split.ensures.done c.split.ensures.closure (λ x b q k. search (rules, tests)))
    (λ x b q k. search (rules, tests))
