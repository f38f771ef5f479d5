use Rattle.std.proofs.Common.{◌≡◌, ℕ, ◌+◌, ◌<◌, length}
use Rattle.schedules.specs.Entered.{Played, AreBounded, entrant, unless_between}
use Rattle.schedules.proofs.ready.hold_back.Given as goal

abbrev pub invariant-loop-place : goal.invariant-loop-place
invariant-loop-place l = record {
  sized : length l.tree ≡ length l.priorities + length l.priorities;
  played : Played l.priorities l.tree;
  bounded : AreBounded l.priorities l.tree;
  entrants : (k : ℕ) → k < length l.priorities → entrant l.priorities l.tree k ≡ unless_between l.from l.place (length l.priorities) k (entrant l.priorities l.initial.tree k);
}
