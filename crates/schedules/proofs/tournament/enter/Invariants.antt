use Rattle.std.proofs.Common.{◌≡◌, ℕ, ◌+◌, ◌<◌, ◌/◌, ◌≢◌, ◌==◌, cond, length}
use Rattle.schedules.specs.Tournament.{IsPlayed, entrant}
use Rattle.schedules.proofs.tournament.enter.Given as goal

abbrev pub invariant-loop-node : goal.invariant-loop-node
invariant-loop-node l = record {
  sized : length l.tree ≡ length l.priorities + length l.priorities;
  above : 0 < l.node;
  within : l.node < length l.priorities + length l.priorities;
  played : (i : ℕ) → 0 < i → i < length l.priorities → i ≢ l.node / 2 → IsPlayed l.priorities l.tree i;
  entrants : (k : ℕ) → k < length l.priorities → entrant l.priorities l.tree k ≡ cond (k == l.fn.place) l.fn.entrant (entrant l.priorities l.initial.tree k);
}

abbrev pub decreases-loop-node : goal.decreases-loop-node
decreases-loop-node l = l.node
