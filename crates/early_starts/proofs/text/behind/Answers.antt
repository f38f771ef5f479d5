use Rattle.early_starts.proofs.TextLemmas.{stripped}
use Rattle.early_starts.proofs.text.behind.Goals as goal

pub returns : goal.returns
returns c = stripped c.args.beginning.now c.args.text.now c.strip_prefix.result c.strip_prefix.ensures.cases
