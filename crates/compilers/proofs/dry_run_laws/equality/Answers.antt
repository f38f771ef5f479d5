use Rattle.compilers.proofs.RecordLemmas.{command_lines, dry_runs}
use Rattle.compilers.proofs.dry_run_laws.equality.Goals as goal

pub returns : goal.returns
returns c = record { commands = command_lines; dry_run = dry_runs }
