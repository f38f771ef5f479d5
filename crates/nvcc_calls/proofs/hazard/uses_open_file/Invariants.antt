use Rattle.std.proofs.Common.{◌≡◌, map, string_bytes, drop}
use Rattle.std.specs.List.{list_any}
use Rattle.nvcc_calls.specs.Hazards.{names_open_file}
use Rattle.nvcc_calls.proofs.hazard.uses_open_file.Given as goal

abbrev pub invariant-loop-word : goal.invariant-loop-word
invariant-loop-word l = list_any names_open_file (map string_bytes (drop l.word-index l.word-items)) ≡ list_any names_open_file l.asked.kept
