use Rattle.std.proofs.Common.{arith}
use Rattle.std.proofs.lemmas.List.{take_rest}
use Rattle.std.proofs.lemmas.Grind.{common_steps}
use Rattle.dry_run_pairs.proofs.AgreementLemmas.{one-here}
use Rattle.dry_run_pairs.proofs.agreement.place_of.Goals as goal

pub returns-then-eq : goal.returns-then-eq
returns-then-eq c = grind (arith, common_steps, take_rest, one-here)
