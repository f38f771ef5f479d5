use Rattle.dry_runs.proofs.ReadingLemmas.{first-folder_is_first}
use Rattle.dry_runs.proofs.lookup_laws.first_candidate.Goals as goal

pub returns : goal.returns
returns c = first-folder_is_first
