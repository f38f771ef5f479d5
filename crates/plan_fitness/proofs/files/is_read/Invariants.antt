use Rattle.std.proofs.Common.{◌≡◌, drop}
use Rattle.std.specs.List.{list_any}
use Rattle.plan_fitness.specs.Fitness.{reads_file}
use Rattle.plan_fitness.proofs.files.is_read.Given as goal

abbrev pub invariant-loop-record : goal.invariant-loop-record
invariant-loop-record l = list_any (reads_file l.path) (drop l.record-index l.records) ≡ list_any (reads_file l.path) l.records
