use Rattle.std.proofs.Common.{arith}
use Rattle.std.proofs.Math.Bool.{or-false}
use Rattle.compilers.proofs.ItemLemmas.{items-completed}
use Rattle.device_lines.proofs.reader.named_files.NamedFiles.take_line.Goals as goal

pub loop-word-preserved : goal.loop-word-preserved
loop-word-preserved g c = grind (arith, items-completed)

pub loop-word-preserved-in-Continue-1 : goal.loop-word-preserved-in-Continue-1
loop-word-preserved-in-Continue-1 g c = grind (arith, items-completed, or-false)
