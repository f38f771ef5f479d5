use Rattle.std.proofs.Common.{◌≡◌, map, string_bytes, drop}
use Rattle.std.specs.List.{list_any}
use Rattle.nvcc_calls.specs.Hazards.{writes_file}
use Rattle.nvcc_calls.proofs.hazard.one_writes_file.Given as goal

abbrev pub invariant-loop-word : goal.invariant-loop-word
invariant-loop-word l = list_any writes_file (map string_bytes (drop l.word-index l.words)) ≡ list_any writes_file (map string_bytes l.words)
