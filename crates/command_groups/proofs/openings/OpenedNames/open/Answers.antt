use Rattle.std.proofs.Common.{arith}
use Rattle.std.proofs.lemmas.Grind.{common_steps}
use Rattle.command_groups.proofs.LabelLemmas.{insert_seen, number_seen}
use Rattle.command_groups.proofs.openings.OpenedNames.open.Goals as goal

pub returns-clause-opened : goal.returns-clause-opened
returns-clause-opened c = grind (arith, common_steps, insert_seen)

pub returns-clause-opening : goal.returns-clause-opening
returns-clause-opening c = grind (arith, common_steps, number_seen)
