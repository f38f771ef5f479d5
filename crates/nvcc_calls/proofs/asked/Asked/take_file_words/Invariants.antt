use Rattle.std.proofs.Common.{◌≡◌, map, string_bytes, length}
use Rattle.nvcc_calls.specs.Asked.{asked_after}
use Rattle.nvcc_calls.proofs.asked.Asked.take_file_words.Given as goal

-- what the whole line asks for is what the items so far and the words that are left ask for
abbrev pub invariant-loop-word : goal.invariant-loop-word
invariant-loop-word l = asked_after l.fn.self (map string_bytes l.fn.words) ≡ asked_after l.self l.line

abbrev pub decreases-loop-word : goal.decreases-loop-word
decreases-loop-word l = length l.line
