use Rattle.schedules.specs.Chains.{chains_of_four, chains_of_three}
use Rattle.schedules.proofs.ChainLemmas.{weights_are_heaviest}
use Rattle.schedules.proofs.laws.chains.Goals as goal

pub returns : goal.returns
returns c = record {
  heaviest = weights_are_heaviest;
  of_four = chains_of_four;
  of_three = chains_of_three;
}
