use Rattle.std.proofs.Common.{arith}
use Rattle.std.proofs.lemmas.Grind.{common_steps}
use Rattle.canonical_names.proofs.PlaceLemmas.{equal-later, differs-here}
use Rattle.canonical_names.proofs.suffixes.SuffixesPartialEq.eq.Goals as goal

pub returns-then-not-are_equal : goal.returns-then-not-are_equal
returns-then-not-are_equal c = grind (arith, common_steps, differs-here)

pub loop-index-preserved : goal.loop-index-preserved
loop-index-preserved c = grind (arith, common_steps, equal-later)
