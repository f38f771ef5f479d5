use Rattle.std.proofs.Common.{◌≡◌, map, string_bytes, drop}
use Rattle.std.specs.List.{list_any}
use Rattle.nvcc_calls.specs.Hazards.{may_be_renamed}
use Rattle.nvcc_calls.proofs.hazard.is_renamed.Given as goal

abbrev pub invariant-loop-word : goal.invariant-loop-word
invariant-loop-word l = list_any may_be_renamed (map string_bytes (drop l.word-index l.word-items)) ≡ list_any may_be_renamed l.normal.words
