use Rattle.std.proofs.Common.{◌≡◌, map, drop}
use Rattle.nvcc_calls.specs.ToolWords.{begins_with_one, shown}
use Rattle.nvcc_calls.proofs.tool_words.begins_with_one.Given as goal

abbrev pub invariant-loop-beginning : goal.invariant-loop-beginning
invariant-loop-beginning l = begins_with_one (map shown (drop l.beginning-index l.beginnings)) l.text ≡ begins_with_one (map shown l.beginnings) l.text
