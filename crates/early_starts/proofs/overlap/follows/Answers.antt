use Rattle.std.proofs.Common.{arith}
use Rattle.early_starts.proofs.OverlapLemmas.{follows-asked}
use Rattle.early_starts.proofs.overlap.follows.Goals as goal

pub returns-then-touches_one_of-2 : goal.returns-then-touches_one_of-2
returns-then-touches_one_of-2 c = grind (arith, follows-asked)

pub returns-else-touches_one_of-2 : goal.returns-else-touches_one_of-2
returns-else-touches_one_of-2 c = grind (arith, follows-asked)
