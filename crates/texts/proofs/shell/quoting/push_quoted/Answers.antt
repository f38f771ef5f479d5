-- The first word and the others are written.
use Rattle.std.proofs.Common.{arith}
use Rattle.std.proofs.lemmas.Grind.{common_steps}
use Rattle.texts.proofs.ShellQuotingLemmas.{words_push}
use Rattle.texts.proofs.shell.quoting.push_quoted.Goals as goal

pub returns : goal.returns
returns c = grind (arith, common_steps, words_push)
