use Rattle.std.proofs.Common.{◌≡◌, drop}
use Rattle.std.specs.List.{list_any}
use Rattle.call_tasks.specs.Halves.{names_stub}
use Rattle.call_tasks.proofs.halves.one_names_stub.Given as goal

abbrev pub invariant-loop-task : goal.invariant-loop-task
invariant-loop-task l = list_any (names_stub l.stub) (drop l.task-index l.tasks) ≡ list_any (names_stub l.stub) l.tasks
