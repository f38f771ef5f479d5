use Rattle.std.proofs.Common.{◌≡◌, drop}
use Rattle.call_tasks.specs.Halves.{is_written}
use Rattle.call_tasks.proofs.halves.is_written.Given as goal

abbrev pub invariant-loop-task : goal.invariant-loop-task
invariant-loop-task l = is_written (drop l.task-index l.tasks) l.path ≡ is_written l.tasks l.path
