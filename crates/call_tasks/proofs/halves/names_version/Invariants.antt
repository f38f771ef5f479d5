use Rattle.std.proofs.Common.{◌≡◌, drop}
use Rattle.std.specs.List.{list_any}
use Rattle.command_files.specs.Files.{is_among}
use Rattle.call_tasks.specs.Halves.{version_word}
use Rattle.call_tasks.proofs.halves.names_version.Given as goal

abbrev pub invariant-loop-task : goal.invariant-loop-task
invariant-loop-task l =
    list_any (λ t. is_among t.command.args version_word) (drop l.task-index l.tasks) ≡ list_any (λ t. is_among t.command.args version_word) l.tasks
