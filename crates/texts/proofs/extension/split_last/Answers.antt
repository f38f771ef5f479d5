use Rattle.texts.proofs.PathLemmas.{split_at_last-split}
use Rattle.texts.proofs.extension.split_last.Goals as goal

pub returns : goal.returns
returns c = split_at_last-split _ _ _ c.rsplit_once.ensures.cases c.requires
