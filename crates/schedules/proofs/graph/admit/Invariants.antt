use Rattle.std.proofs.Common.{◌≡◌, ◌+◌, ◌<◌, ℕ, cond, ◌&&◌, ◌==◌, length, get_or}
use Rattle.std.specs.Prelude.{nat_lt}
use Rattle.schedules.specs.Entered.{Played, entrant}
use Rattle.schedules.proofs.graph.admit.Given as goal

abbrev pub invariant-loop-command : goal.invariant-loop-command
invariant-loop-command l = record {
  sized : length l.tree ≡ length l.priorities + length l.priorities;
  played : Played l.priorities l.tree;
  entrants : (k : ℕ) → k < length l.priorities → entrant l.priorities l.tree k ≡ cond (nat_lt k l.command && (get_or l.waiting k 0 == 0)) k (length l.priorities);
}
