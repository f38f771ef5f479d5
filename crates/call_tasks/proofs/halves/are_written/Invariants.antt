use Rattle.std.proofs.Common.{◌≡◌, map, drop, string_bytes}
use Rattle.std.specs.List.{list_all}
use Rattle.call_tasks.specs.Halves.{is_written}
use Rattle.call_tasks.proofs.halves.are_written.Given as goal

abbrev pub invariant-loop-path : goal.invariant-loop-path
invariant-loop-path l =
    list_all (is_written l.tasks) (map string_bytes (drop l.path-index l.paths)) ≡ list_all (is_written l.tasks) (map string_bytes l.paths)
