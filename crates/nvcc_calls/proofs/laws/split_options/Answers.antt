use Rattle.nvcc_calls.proofs.OptionLemmas as lemma
use Rattle.nvcc_calls.proofs.laws.split_options.Goals as goal

pub returns : goal.returns
returns c = lemma.split-options
