use Rattle.command_files.proofs.OverlapLemmas.{overlaps_agree}
use Rattle.command_files.proofs.laws.overlaps.Goals as goal

pub returns : goal.returns
returns c = overlaps_agree
