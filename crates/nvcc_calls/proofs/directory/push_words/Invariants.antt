use Rattle.std.proofs.Common.{◌≡◌, ◌++◌, map, string_bytes, drop}
use Rattle.nvcc_calls.specs.Directory.{identity}
use Rattle.nvcc_calls.proofs.directory.push_words.Given as goal

abbrev pub invariant-loop-word : goal.invariant-loop-word
invariant-loop-word l = string_bytes l.text ++ identity (map string_bytes (drop l.word-index l.words)) ≡ string_bytes l.initial.text ++ identity (map string_bytes l.words)
