use Rattle.rooted_commands.proofs.MarkLemmas.{rest_after-slice}
use Rattle.rooted_commands.proofs.own.behind.Goals as goal

pub returns : goal.returns
returns c = rest_after-slice c.args.mark.now c.args.text.now c.strip_prefix.result c.strip_prefix.ensures.cases
