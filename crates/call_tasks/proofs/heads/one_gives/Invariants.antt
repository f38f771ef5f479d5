use Rattle.std.proofs.Common.{◌≡◌, drop}
use Rattle.std.specs.List.{list_any}
use Rattle.early_starts.specs.LateFiles.{gives}
use Rattle.call_tasks.proofs.heads.one_gives.Given as goal

abbrev pub invariant-loop-task : goal.invariant-loop-task
invariant-loop-task l = list_any (λ e. gives l.late e.command) (drop l.task-index l.before) ≡ list_any (λ e. gives l.late e.command) l.before
