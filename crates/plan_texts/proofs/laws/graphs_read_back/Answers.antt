use Rattle.plan_texts.proofs.ReadGraphLemmas.{graph_reads_back}
use Rattle.plan_texts.proofs.laws.graphs_read_back.Goals as goal

pub returns : goal.returns
returns c = graph_reads_back
