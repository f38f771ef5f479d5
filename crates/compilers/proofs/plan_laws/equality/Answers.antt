use Rattle.compilers.proofs.RecordLemmas.{subcommands, reasons, dropped, groups, dropped_commands, plans}
use Rattle.compilers.proofs.plan_laws.equality.Goals as goal

pub returns : goal.returns
returns c = record {
  command = subcommands;
  reason = reasons;
  dropped_command = dropped;
  groups = groups;
  dropped_commands = dropped_commands;
  plan = plans;
}
