use Rattle.std.proofs.Common.{◌≡◌, []}
use Rattle.call_tasks.specs.Heads.{heads_behind}
use Rattle.call_tasks.proofs.heads.with_heads.Given as goal

-- the tasks so far, and those that are left, are all
abbrev pub invariant-loop-task : goal.invariant-loop-task
invariant-loop-task l = heads_behind l.own l.headed.items l.task-iterator.rest.items ≡ heads_behind l.own [] l.fn.tasks.items
