use Rattle.std.proofs.Common.{◌≡◌, map, string_bytes, drop}
use Rattle.std.specs.List.{list_any}
use Rattle.nvcc_calls.specs.Hazards.{asks_to_keep}
use Rattle.nvcc_calls.proofs.hazard.one_asks_to_keep.Given as goal

abbrev pub invariant-loop-word : goal.invariant-loop-word
invariant-loop-word l = list_any asks_to_keep (map string_bytes (drop l.word-index l.words)) ≡ list_any asks_to_keep (map string_bytes l.words)
