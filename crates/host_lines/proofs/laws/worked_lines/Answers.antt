use Rattle.host_lines.specs.LineExamples.{environment_adds_words}
use Rattle.host_lines.proofs.laws.worked_lines.Goals as goal

pub returns-clause-environment_adds_words : goal.returns-clause-environment_adds_words
returns-clause-environment_adds_words c = environment_adds_words
