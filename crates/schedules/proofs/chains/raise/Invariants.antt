use Rattle.std.proofs.Common.{◌≡◌, length, drop}
use Rattle.std.specs.List.{fold}
use Rattle.schedules.specs.Chains.{raised}
use Rattle.schedules.proofs.chains.raise.Given as goal

abbrev pub invariant-loop-command : goal.invariant-loop-command
invariant-loop-command l = record {
  as_many : length l.chains ≡ length l.initial.chains;
  raised_is : fold (raised l.weight) l.chains (drop l.command-index l.commands) ≡ fold (raised l.weight) l.initial.chains l.commands;
}
