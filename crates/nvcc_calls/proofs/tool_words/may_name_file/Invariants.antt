use Rattle.std.proofs.Common.{◌≡◌, map, drop}
use Rattle.std.specs.List.{list_any}
use Rattle.texts.specs.Lists.{is_some_and, rest_after}
use Rattle.nvcc_calls.specs.ToolWords.{shown, tool_options, value_names_file}
use Rattle.nvcc_calls.proofs.tool_words.may_name_file.Given as goal

-- what the options that are left say is what all say
abbrev pub invariant-loop-option : goal.invariant-loop-option
invariant-loop-option l =
    list_any (λ option. is_some_and value_names_file (rest_after option l.word)) (map shown (drop l.option-index l.option-items))
    ≡ list_any (λ option. is_some_and value_names_file (rest_after option l.word)) tool_options
