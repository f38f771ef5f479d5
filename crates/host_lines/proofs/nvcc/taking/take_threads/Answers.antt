use Rattle.host_lines.proofs.TakingLemmas.{threads_gathered}
use Rattle.std.proofs.Common.{map, string_bytes}
use Rattle.host_lines.proofs.nvcc.taking.take_threads.Goals as goal

pub loop-word-init : goal.loop-word-init
loop-word-init c = rw c.new-stay.ensures (threads_gathered (map string_bytes c.args.words.now))
