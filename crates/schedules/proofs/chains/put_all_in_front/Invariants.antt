use Rattle.std.proofs.Common.{◌≡◌, ◌≤◌, length, drop, map, vec_items}
use Rattle.schedules.specs.Chains.{chains_from}
use Rattle.schedules.proofs.chains.put_all_in_front.Given as goal

abbrev pub invariant-loop-command : goal.invariant-loop-command
invariant-loop-command l = record {
  within : l.command ≤ length l.needs;
  as_many : length l.chains ≡ length l.needs;
  chains_are : l.chains ≡ chains_from l.command (drop l.command (map vec_items l.needs)) l.weights l.initial.chains;
}

abbrev pub decreases-loop-command : goal.decreases-loop-command
decreases-loop-command l = l.command
