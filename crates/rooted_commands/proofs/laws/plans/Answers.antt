use Rattle.rooted_commands.proofs.CheckoutLemmas.{alike-plans-run-alike, rooted-words-agree}
use Rattle.rooted_commands.proofs.WrittenLemmas.{hosts-write-generated-paths, hosts-write-rooted-paths}
use Rattle.rooted_commands.proofs.laws.plans.Goals as goal

pub returns : goal.returns
returns c = record { hosts = hosts-write-rooted-paths; generated = hosts-write-generated-paths; words = rooted-words-agree; checkouts = alike-plans-run-alike }
