use Rattle.std.proofs.Common.{◌≡◌, ◌++◌, map, vec_items, take, drop}
use Rattle.command_files.specs.Order.{needs_behind}
use Rattle.call_tasks.specs.Needs.{needs_of, needs_whole}
use Rattle.call_tasks.proofs.needs.needs_of.Given as goal

-- the needs so far, and those of the tasks that are left, are all
abbrev pub invariant-loop-number : goal.invariant-loop-number
invariant-loop-number l =
    map vec_items l.needs.items ++ needs_behind (needs_whole l.frees) (take l.number l.tasks) (drop l.number l.tasks) ≡ needs_of l.frees l.tasks
