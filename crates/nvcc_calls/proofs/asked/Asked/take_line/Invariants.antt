use Rattle.std.proofs.Common.{◌≡◌, map, string_bytes, length}
use Rattle.nvcc_calls.specs.Asked.{line_asked_after}
use Rattle.texts.specs.Variables.{pair_of}
use Rattle.nvcc_calls.proofs.asked.Asked.take_line.Given as goal

-- what the whole line asks for is what the items so far and the words that are left ask for
abbrev pub invariant-loop-word : goal.invariant-loop-word
invariant-loop-word l = line_asked_after (map pair_of l.fn.files) l.fn.self (map string_bytes l.fn.words) ≡ line_asked_after (map pair_of l.fn.files) l.self l.line

abbrev pub decreases-loop-word : goal.decreases-loop-word
decreases-loop-word l = length l.line
