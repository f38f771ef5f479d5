use Rattle.std.proofs.Common.{arith}
use Rattle.std.proofs.lemmas.Grind.{common_steps}
use Rattle.canonical_names.proofs.PlaceLemmas.{find-later, find-here}
use Rattle.canonical_names.proofs.suffixes.Suffixes.class.Goals as goal

pub returns-then-ends_in-clause-none : goal.returns-then-ends_in-clause-none
returns-then-ends_in-clause-none c = grind (arith, common_steps, find-here)

pub loop-index-preserved : goal.loop-index-preserved
loop-index-preserved c = grind (arith, common_steps, find-later)
