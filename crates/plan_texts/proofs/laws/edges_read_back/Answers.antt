use Rattle.std.proofs.Common.{arith}
use Rattle.std.proofs.lemmas.Grind.{common_steps}
use Rattle.plan_texts.proofs.ReadBackLemmas.{text_then, touch_reads}
use Rattle.plan_texts.proofs.ReadGraphLemmas.{utf8-path}
use Rattle.plan_texts.proofs.laws.edges_read_back.Goals as goal

pub returns : goal.returns
returns c = grind (arith, common_steps, text_then, touch_reads, utf8-path)
