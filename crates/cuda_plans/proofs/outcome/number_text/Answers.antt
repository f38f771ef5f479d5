-- A signed number below 2^63 is printed as its numeral.
use Rattle.std.proofs.Common.{arith}
use Rattle.texts.proofs.NumeralLemmas.{decimal-numeral}
use Rattle.cuda_plans.proofs.outcome.number_text.Goals as goal

pub returns-clause-numeral : goal.returns-clause-numeral
returns-clause-numeral c = grind (arith, decimal-numeral)
