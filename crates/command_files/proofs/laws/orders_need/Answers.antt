use Rattle.std.proofs.Common.{arith}
use Rattle.std.proofs.lemmas.Grind.{common_steps}
use Rattle.command_files.proofs.OrderNeedLemmas.{reads_must_follow, writes_must_follow_reads, writes_must_follow_writes}
use Rattle.command_files.proofs.laws.orders_need.Goals as goal

pub returns : goal.returns
returns c = grind (arith, common_steps, reads_must_follow, writes_must_follow_reads, writes_must_follow_writes)
