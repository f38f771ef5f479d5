use Rattle.dependency_rules.proofs.MarkLemmas.{rest_after-slice}
use Rattle.dependency_rules.proofs.files.behind.Goals as goal

pub returns : goal.returns
returns c = rest_after-slice c.args.mark.now c.args.text.now c.strip_prefix.result c.strip_prefix.ensures.cases
