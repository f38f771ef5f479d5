use Rattle.std.proofs.Common.{arith}
use Rattle.std.proofs.lemmas.Grind.{common_steps}
use Rattle.dry_runs.proofs.ParsedLemmas.{read-next, read-ended}
use Rattle.dry_runs.proofs.reader.read_lines.Goals as goal

pub loop-line-preserved : goal.loop-line-preserved
loop-line-preserved g c = grind (arith, common_steps, read-next)

pub returns-in-Err : goal.returns-in-Err
returns-in-Err g c = grind (arith, read-ended)
