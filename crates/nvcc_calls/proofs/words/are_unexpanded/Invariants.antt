use Rattle.std.proofs.Common.{◌≡◌, map, string_bytes, drop}
use Rattle.std.specs.List.{list_all}
use Rattle.nvcc_calls.specs.Words.{is_unexpanded}
use Rattle.nvcc_calls.proofs.words.are_unexpanded.Given as goal

abbrev pub invariant-loop-word : goal.invariant-loop-word
invariant-loop-word l = list_all is_unexpanded (map string_bytes (drop l.word-index l.words)) ≡ list_all is_unexpanded (map string_bytes l.words)
