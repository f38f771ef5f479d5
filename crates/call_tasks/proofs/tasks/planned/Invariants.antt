use Rattle.std.proofs.Common.{◌≡◌, ◌++◌, map, drop}
use Rattle.call_tasks.specs.Tasks.{planned, planned_task}
use Rattle.call_tasks.proofs.tasks.planned.Given as goal

-- the tasks so far, and those of the commands that are left, are all
abbrev pub invariant-loop-listed : goal.invariant-loop-listed
invariant-loop-listed l = l.tasks.items ++ map (planned_task l.asks l.count) (drop l.listed-index l.listed-items) ≡ planned l.asks l.fn.plan
