use Rattle.source_layouts.specs.LineNumbers.{sets_are_tried}
use Rattle.source_layouts.proofs.LineNumberLemmas.{shut_out}
use Rattle.source_layouts.proofs.laws.line_numbers.Goals as goal

pub returns-clause-sets : goal.returns-clause-sets
returns-clause-sets c = shut_out

pub returns-clause-tried : goal.returns-clause-tried
returns-clause-tried c = sets_are_tried
