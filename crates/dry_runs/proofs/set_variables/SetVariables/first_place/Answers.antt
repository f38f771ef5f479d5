use Rattle.std.proofs.Common.{arith}
use Rattle.std.proofs.lemmas.Grind.{common_steps}
use Rattle.dry_runs.proofs.PlaceLemmas.{first-unended}
use Rattle.dry_runs.proofs.set_variables.SetVariables.first_place.Goals as goal

pub returns-then-not-ends_a_name : goal.returns-then-not-ends_a_name
returns-then-not-ends_a_name c = grind (arith, common_steps, first-unended)

pub returns : goal.returns
returns c = cc
