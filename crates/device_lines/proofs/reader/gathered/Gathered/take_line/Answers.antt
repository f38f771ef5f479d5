use Rattle.std.proofs.Common.{arith}
use Rattle.compilers.proofs.ItemLemmas.{items-completed}
use Rattle.device_lines.proofs.reader.gathered.Gathered.take_line.Goals as goal

pub loop-word-preserved : goal.loop-word-preserved
loop-word-preserved g c = grind (arith, items-completed)
