use Rattle.std.proofs.Common.{◌≡◌, map, drop, bytes_eq}
use Rattle.std.specs.List.{list_any}
use Rattle.nvcc_calls.specs.ToolWords.{shown}
use Rattle.nvcc_calls.proofs.tool_words.is_among.Given as goal

abbrev pub invariant-loop-other : goal.invariant-loop-other
invariant-loop-other l = list_any (bytes_eq l.name) (map shown (drop l.other-index l.names)) ≡ list_any (bytes_eq l.name) (map shown l.names)
