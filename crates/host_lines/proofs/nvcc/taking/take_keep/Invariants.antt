use Rattle.std.proofs.Common.{◌≡◌, map, string_bytes, drop, fold}
use Rattle.host_lines.specs.KeepThreads.{nothing_kept, with_keep_word}
use Rattle.host_lines.proofs.nvcc.taking.take_keep.Given as goal

abbrev pub invariant-loop-word : goal.invariant-loop-word
invariant-loop-word l =
    fold with_keep_word l.taken (map string_bytes (drop l.word-index l.words)) ≡ fold with_keep_word nothing_kept (map string_bytes l.words)
