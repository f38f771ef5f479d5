use Rattle.nvcc_calls.proofs.IdentityLemmas as lemma
use Rattle.nvcc_calls.proofs.laws.identities.Goals as goal

pub returns : goal.returns
returns c = lemma.identities
