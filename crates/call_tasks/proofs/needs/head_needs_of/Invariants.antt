use Rattle.std.proofs.Common.{◌≡◌, ◌++◌, map, vec_items, take, drop}
use Rattle.call_tasks.specs.Needs.{head_needs_behind, head_needs_of}
use Rattle.call_tasks.proofs.needs.head_needs_of.Given as goal

-- the needs so far, and those of the tasks that are left, are all
abbrev pub invariant-loop-number : goal.invariant-loop-number
invariant-loop-number l =
    map vec_items l.needs.items ++ head_needs_behind l.frees (take l.number l.tasks) (drop l.number l.tasks) ≡ head_needs_of l.frees l.tasks
