use Rattle.std.proofs.Common.{◌≡◌, map, string_bytes, drop, bytes_eq}
use Rattle.std.specs.List.{list_all}
use Rattle.nvcc_calls.specs.NormalForm.{first_of}
use Rattle.nvcc_calls.proofs.settling.differ.Given as goal

abbrev pub invariant-loop-text : goal.invariant-loop-text
invariant-loop-text l = list_all (bytes_eq (first_of l.texts)) (map string_bytes (drop l.text-index l.text-items)) ≡ list_all (bytes_eq (first_of l.texts)) l.texts
