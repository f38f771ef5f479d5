use Rattle.std.proofs.Common.{arith}
use Rattle.std.proofs.lemmas.Grind.{common_steps}
use Rattle.dry_runs.proofs.ExpansionLemmas.{within-words}
use Rattle.dry_runs.proofs.environment.expanded_words.Goals as goal

pub returns-in-Some : goal.returns-in-Some
returns-in-Some c = grind (arith, common_steps, within-words)
