use Rattle.std.proofs.Common.{ap, not, ◌∙◌}
use Rattle.texts.proofs.PathLemmas.{lacks-by_search}
use Rattle.rooted_commands.proofs.markers.has_no.Goals as goal

pub returns : goal.returns
returns c = ap not c.contains.ensures.value ∙ lacks-by_search c.args.byte c.args.text.now
