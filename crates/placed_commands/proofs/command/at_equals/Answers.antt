use Rattle.placed_commands.proofs.CutLemmas.{cut-once}
use Rattle.placed_commands.proofs.command.at_equals.Goals as goal

pub returns-clause-cut : goal.returns-clause-cut
returns-clause-cut c = cut-once c.args.text.now c.split_once.result c.split_once.ensures.cases
