use Rattle.std.proofs.Common.{arith}
use Rattle.std.proofs.lemmas.Grind.{common_steps}
use Rattle.canonical_names.proofs.PlaceLemmas.{any-later, any-here}
use Rattle.canonical_names.proofs.suffixes.Suffixes.follow_dot.Goals as goal

pub returns-then-follows_dot : goal.returns-then-follows_dot
returns-then-follows_dot c = grind (arith, common_steps, any-here)

pub loop-index-preserved : goal.loop-index-preserved
loop-index-preserved c = grind (arith, common_steps, any-later)
