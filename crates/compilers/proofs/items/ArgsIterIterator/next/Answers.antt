use Rattle.std.proofs.Common.{arith}
use Rattle.std.proofs.lemmas.Grind.{common_steps}
use Rattle.compilers.proofs.ItemLemmas.{items-completed}
use Rattle.compilers.proofs.items.ArgsIterIterator.next.Goals as goal

pub returns-in-Ok-clause-steps : goal.returns-in-Ok-clause-steps
returns-in-Ok-clause-steps g c = grind (arith, common_steps, items-completed)
