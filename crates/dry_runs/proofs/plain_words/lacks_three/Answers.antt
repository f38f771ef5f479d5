use Rattle.std.proofs.Common.{arith}
use Rattle.std.proofs.lemmas.Grind.{common_steps}
use Rattle.dry_runs.proofs.PlainWordLemmas.{none-found, turned}
use Rattle.dry_runs.proofs.plain_words.lacks_three.Goals as goal

pub returns : goal.returns
returns c = grind (arith, common_steps, turned, none-found)
