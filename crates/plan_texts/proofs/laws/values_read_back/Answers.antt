use Rattle.plan_texts.proofs.TextLemmas.{value_reads_back}
use Rattle.plan_texts.proofs.laws.values_read_back.Goals as goal

pub returns : goal.returns
returns c = value_reads_back
