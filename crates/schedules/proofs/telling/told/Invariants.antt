use Rattle.std.proofs.Common.{◌≡◌, ◌-◌}
use Rattle.schedules.specs.Told.{told_from, between, told}
use Rattle.schedules.proofs.telling.told.Given as goal

abbrev pub invariant-loop-next : goal.invariant-loop-next
invariant-loop-next l = told_from l.next (between l.states l.next l.end) ≡ told l.states l.first l.end

abbrev pub decreases-loop-next : goal.decreases-loop-next
decreases-loop-next l = l.end - l.next
