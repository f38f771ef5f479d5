use Rattle.std.proofs.Common.{append_assoc, arith}
use Rattle.std.proofs.lemmas.Grind.{common_steps}
use Rattle.command_files.proofs.TouchedLemmas.{touching_both, with_both}
use Rattle.command_files.proofs.needed.gathered.Goals as goal

pub returns-clause-numbers : goal.returns-clause-numbers
returns-clause-numbers c = grind (arith, common_steps, append_assoc, touching_both)

pub returns-clause-writers : goal.returns-clause-writers
returns-clause-writers c = grind (arith, common_steps, with_both)
