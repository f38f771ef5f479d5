use Rattle.std.proofs.Common.{arith}
use Rattle.command_keys.proofs.MarkLemmas.{begins-stripped, stripped}
use Rattle.command_keys.proofs.marks.behind.Goals as goal

pub returns-then-may_end : goal.returns-then-may_end
returns-then-may_end c = grind (arith, begins-stripped, stripped)

pub returns-else-may_end : goal.returns-else-may_end
returns-else-may_end c = grind (arith, begins-stripped)
