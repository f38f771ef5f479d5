use Rattle.std.proofs.Common.{◌≡◌, map, drop, string_bytes}
use Rattle.command_files.specs.Files.{share}
use Rattle.command_files.specs.PlanNeeds.{record_of}
use Rattle.early_starts.proofs.overlap.writes_one_of.Given as goal

abbrev pub invariant-loop-path : goal.invariant-loop-path
invariant-loop-path l = share (map string_bytes (drop l.path-index l.paths)) (record_of l.files).writes ≡ share (map string_bytes l.paths) (record_of l.files).writes
