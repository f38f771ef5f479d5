use Rattle.rooted_commands.proofs.OwnLemmas.{own-paths-come-back}
use Rattle.rooted_commands.proofs.PathLemmas.{checkouts-agree, paths-stay-distinct, one-folder-is-exact, rooted-paths-lead-home}
use Rattle.rooted_commands.proofs.CheckoutLemmas.{equal-paths-are-one-place}
use Rattle.rooted_commands.proofs.StepLemmas.{root-keeps-steps}
use Rattle.rooted_commands.proofs.laws.roots.Goals as goal

pub returns : goal.returns
returns c = record {
  same = checkouts-agree;
  distinct = paths-stay-distinct;
  exact = one-folder-is-exact;
  steps = root-keeps-steps;
  back = own-paths-come-back;
  home = rooted-paths-lead-home;
  places = equal-paths-are-one-place;
}
