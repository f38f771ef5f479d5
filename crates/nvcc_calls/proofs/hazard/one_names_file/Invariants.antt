use Rattle.std.proofs.Common.{◌≡◌, map, string_bytes, drop}
use Rattle.std.specs.List.{list_any}
use Rattle.nvcc_calls.specs.ToolWords.{may_name_file}
use Rattle.nvcc_calls.proofs.hazard.one_names_file.Given as goal

abbrev pub invariant-loop-word : goal.invariant-loop-word
invariant-loop-word l = list_any may_name_file (map string_bytes (drop l.word-index l.words)) ≡ list_any may_name_file (map string_bytes l.words)
