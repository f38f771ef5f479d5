use Rattle.compilers.proofs.RecordLemmas.{outputs, arguments, commands}
use Rattle.compilers.proofs.laws.equality.Goals as goal

pub returns-clause-outputs : goal.returns-clause-outputs
returns-clause-outputs c = outputs

pub returns-clause-arguments : goal.returns-clause-arguments
returns-clause-arguments c = arguments

pub returns-clause-command : goal.returns-clause-command
returns-clause-command c = commands
