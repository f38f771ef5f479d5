use Rattle.std.proofs.Common.{ap, not, ◌∙◌}
use Rattle.texts.proofs.PathLemmas.{lacks-by_search}
use Rattle.command_keys.proofs.keys.is_plain.Goals as goal

pub returns : goal.returns
returns c = ap not c.contains.ensures.value ∙ lacks-by_search 0 c.args.text.now
