use Rattle.dry_runs.proofs.ReadingLemmas.{reads-alike, snapshot-reads, asked-once}
use Rattle.dry_runs.proofs.lookup_laws.reading.Goals as goal

pub returns : goal.returns
returns c = record { alike = reads-alike; snapshot = snapshot-reads; once = asked-once }
