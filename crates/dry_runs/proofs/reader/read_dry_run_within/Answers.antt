use Rattle.std.proofs.Common.{arith}
use Rattle.std.proofs.lemmas.Grind.{common_steps}
use Rattle.dry_runs.proofs.ParsedLemmas.{whole-within}
use Rattle.dry_runs.proofs.reader.read_dry_run_within.Goals as goal

pub returns : goal.returns
returns g c = grind (arith, common_steps, whole-within)
