use Rattle.std.proofs.Common.{arith}
use Rattle.std.proofs.lemmas.Grind.{common_steps}
use Rattle.texts.proofs.ListLemmas.{appended-clones}
use Rattle.texts.proofs.words.Words.extend.Goals as goal

pub returns-clause-ok : goal.returns-clause-ok
returns-clause-ok c = grind (arith, common_steps, appended-clones)
