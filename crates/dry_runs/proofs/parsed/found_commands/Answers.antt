use Rattle.std.proofs.Common.{arith}
use Rattle.std.proofs.lemmas.Grind.{common_steps}
use Rattle.dry_runs.proofs.ParsedLemmas.{found-next}
use Rattle.dry_runs.proofs.parsed.found_commands.Goals as goal

pub loop-line-preserved : goal.loop-line-preserved
loop-line-preserved g c = grind (arith, common_steps, found-next)
