use Rattle.canonical_names.proofs.CanonicalLemmas.{standard-are_suffixes, folder_and_class-stay, rank-counts_names}
use Rattle.canonical_names.proofs.CleanLemmas.{clean-run_is_a_map}
use Rattle.canonical_names.proofs.RewriteLemmas.{other-words_stay}
use Rattle.canonical_names.proofs.laws.canonical_names.Goals as goal

pub returns : goal.returns
returns c = record {
  standard = standard-are_suffixes;
  kept = folder_and_class-stay;
  others = other-words_stay;
  ranks = rank-counts_names;
  clean = clean-run_is_a_map;
}
