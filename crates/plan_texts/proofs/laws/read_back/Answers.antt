use Rattle.plan_texts.proofs.ReadBackLemmas.{command_reads_back, script_reads_back}
use Rattle.plan_texts.proofs.laws.read_back.Goals as goal

pub returns : goal.returns
returns c = record { commands = command_reads_back; scripts = script_reads_back }
