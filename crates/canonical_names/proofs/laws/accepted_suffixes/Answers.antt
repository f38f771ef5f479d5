use Rattle.canonical_names.proofs.SuffixLemmas.{accepted-are_suffixes}
use Rattle.canonical_names.proofs.laws.accepted_suffixes.Goals as goal

pub returns : goal.returns
returns c = accepted-are_suffixes
