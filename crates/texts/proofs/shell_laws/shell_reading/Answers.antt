use Rattle.texts.proofs.PosixLemmas.{one_token, quoted_tokens, quoted_before, quoted_command}
use Rattle.texts.proofs.shell_laws.shell_reading.Goals as goal

pub returns : goal.returns
returns c = record { word = one_token; words = quoted_tokens; before = quoted_before; command = quoted_command }
