use Rattle.std.proofs.Common.{◌≡◌, map, string_bytes, drop}
use Rattle.nvcc_calls.specs.Answer.{asks_lines}
use Rattle.nvcc_calls.proofs.outline.asks_lines.Given as goal

abbrev pub invariant-loop-word : goal.invariant-loop-word
invariant-loop-word l = asks_lines (map string_bytes (drop l.word-index l.words)) ≡ asks_lines (map string_bytes l.words)
