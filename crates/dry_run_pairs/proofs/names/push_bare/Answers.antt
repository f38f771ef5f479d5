use Rattle.std.proofs.Common.{arith}
use Rattle.std.proofs.lemmas.List.{take_rest}
use Rattle.std.proofs.lemmas.Grind.{common_steps}
use Rattle.dry_run_pairs.proofs.NameLemmas.{bare-drops}
use Rattle.dry_run_pairs.proofs.names.push_bare.Goals as goal

pub loop-byte-preserved : goal.loop-byte-preserved
loop-byte-preserved c = grind (arith, common_steps, take_rest, bare-drops)
