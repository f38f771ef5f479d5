use Rattle.std.proofs.Common.{◌≡◌, ◌++◌, map}
use Rattle.call_tasks.specs.Halves.{moved_task}
use Rattle.call_tasks.proofs.halves.moved_tasks.Given as goal

-- the tasks so far, and those that are left, are all
abbrev pub invariant-loop-task : goal.invariant-loop-task
invariant-loop-task l = l.moved.items ++ map (moved_task l.own l.stub) l.task-iterator.rest.items ≡ map (moved_task l.own l.stub) l.fn.tasks.items
