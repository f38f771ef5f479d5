use Rattle.std.proofs.Common.{◌≡◌, ◌++◌, drop}
use Rattle.command_files.specs.Order.{numbers_where}
use Rattle.call_tasks.specs.Needs.{needs_task}
use Rattle.call_tasks.proofs.needs.numbers.Given as goal

-- the numbers so far, and those of the tasks that are left, are all
abbrev pub invariant-loop-number : goal.invariant-loop-number
invariant-loop-number l =
    l.numbers.items ++ numbers_where (λ e. needs_task l.frees l.is_rule e l.later) l.number (drop l.number l.earlier)
    ≡ numbers_where (λ e. needs_task l.frees l.is_rule e l.later) 0 l.earlier
