-- The first character is taken off a text.
use Rattle.std.proofs.Common.{arith}
use Rattle.std.proofs.lemmas.Grind.{common_steps}
use Rattle.texts.proofs.ShellSpanLemmas.{past_char}
use Rattle.texts.proofs.shell.splitting.next_char.Goals as goal

pub returns : goal.returns
returns c = grind (arith, common_steps, past_char)
