use Rattle.std.proofs.Common.{arith}
use Rattle.std.proofs.lemmas.Grind.{common_steps}
use Rattle.command_groups.proofs.WordLemmas.{before-unknown, before-known}
use Rattle.command_groups.proofs.stage.with_word_before.Goals.{in-Some+in_ok-copy-in-Some+in_ok-insert-in-Some, in-None}
use Rattle.command_groups.proofs.stage.with_word_before.Goals as goal

pub returns : goal.returns
returns c =
    grind (arith, common_steps, in-Some+in_ok-copy-in-Some+in_ok-insert-in-Some, before-known, in-None, before-unknown)
