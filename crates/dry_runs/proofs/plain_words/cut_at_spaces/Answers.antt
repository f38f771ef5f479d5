use Rattle.std.proofs.Common.{append_assoc, arith}
use Rattle.std.proofs.lemmas.Grind.{common_steps}
use Rattle.dry_runs.proofs.PlainWordLemmas.{between-cut, between-last}
use Rattle.dry_runs.proofs.plain_words.cut_at_spaces.Goals as goal

pub loop-word-preserved : goal.loop-word-preserved
loop-word-preserved c = grind (arith, common_steps, append_assoc, between-cut)

pub returns : goal.returns
returns c = grind (arith, common_steps, between-last)
