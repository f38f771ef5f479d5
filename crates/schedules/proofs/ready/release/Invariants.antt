use Rattle.std.proofs.Common.{◌≡◌, ℕ, ◌+◌, ◌<◌, length, drop, get_or}
use Rattle.schedules.specs.Entered.{AreEntered, times}
use Rattle.schedules.proofs.ready.release.Given as goal

abbrev pub invariant-loop-dependent : goal.invariant-loop-dependent
invariant-loop-dependent l = record {
  entered : AreEntered l.priorities l.tree l.states l.waiting l.limit;
  as_many : length l.waiting ≡ length l.priorities;
  left : (n : ℕ) → n < length l.priorities → get_or l.waiting n 0 + times n l.dependents ≡ get_or l.initial.waiting n 0 + times n (drop l.dependent-index l.dependents);
}
