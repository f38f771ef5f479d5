use Rattle.std.proofs.Common.{append_assoc, arith}
use Rattle.std.proofs.lemmas.Grind.{common_steps}
use Rattle.texts.proofs.PushedLemmas.{next-left}
use Rattle.command_files.proofs.TouchedLemmas.{touching_noted}
use Rattle.command_files.proofs.touched.Touched.write_all.Goals as goal

pub loop-path-preserved : goal.loop-path-preserved
loop-path-preserved c = grind (arith, common_steps, next-left, touching_noted, append_assoc)
