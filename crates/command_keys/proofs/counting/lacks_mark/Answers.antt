use Rattle.std.proofs.Common.{ap, not, ◌∙◌}
use Rattle.texts.proofs.PathLemmas.{lacks-by_search}
use Rattle.command_keys.proofs.counting.lacks_mark.Goals as goal

pub returns : goal.returns
returns c = ap not c.contains.ensures.value ∙ lacks-by_search 1 c.args.word.now
