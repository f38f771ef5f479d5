use Rattle.std.proofs.Common.{◌≡◌, map, string_bytes, drop}
use Rattle.host_lines.specs.KeepThreads.{threads_of}
use Rattle.host_lines.proofs.TakingLemmas.{threads_after}
use Rattle.host_lines.proofs.nvcc.taking.take_threads.Given as goal

abbrev pub invariant-loop-word : goal.invariant-loop-word
invariant-loop-word l =
    threads_after l.stay l.number l.awaits_number (map string_bytes (drop l.word-index l.words)) ≡ threads_of (map string_bytes l.words)
