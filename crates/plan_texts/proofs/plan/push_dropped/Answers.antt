use Rattle.std.proofs.Common.{append_assoc, arith}
use Rattle.std.proofs.lemmas.Grind.{common_steps}
use Rattle.texts.proofs.NumeralLemmas.{decimal-numeral}
use Rattle.plan_texts.proofs.plan.push_dropped.Goals as goal

pub returns : goal.returns
returns c = grind (arith, common_steps, append_assoc, decimal-numeral)
