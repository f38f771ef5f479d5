use Rattle.std.proofs.Common.{arith}
use Rattle.std.proofs.lemmas.Grind.{common_steps}
use Rattle.command_groups.proofs.LabelLemmas.{numbered, opening_seen}
use Rattle.command_groups.proofs.openings.OpenedNames.opening.Goals as goal

pub returns-in_err-number : goal.returns-in_err-number
returns-in_err-number c = grind (arith, common_steps, numbered, opening_seen)

pub returns : goal.returns
returns c = grind (arith, common_steps, numbered, opening_seen)
