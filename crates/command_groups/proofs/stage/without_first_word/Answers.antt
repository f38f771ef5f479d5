use Rattle.std.proofs.Common.{arith}
use Rattle.std.proofs.lemmas.Grind.{common_steps}
use Rattle.command_groups.proofs.WordLemmas.{without-unknown, without-known}
use Rattle.command_groups.proofs.stage.without_first_word.Goals as goal

pub returns-in-None : goal.returns-in-None
returns-in-None c = simp (without-unknown, c.as_slice.ensures.value, c.in-None.ensures.place)

pub returns-in-Some : goal.returns-in-Some
returns-in-Some c = grind (arith, common_steps, without-known)
