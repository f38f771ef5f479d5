use Rattle.std.proofs.Common.{◌≡◌, map, vec_items, drop}
use Rattle.std.specs.List.{list_all}
use Rattle.dependency_rules.specs.Rules as spec
use Rattle.dependency_rules.proofs.rules.is_certain.Given as goal

abbrev pub invariant-loop-file : goal.invariant-loop-file
invariant-loop-file l = list_all spec.is_written_alike (map vec_items (drop l.file-index l.files)) ≡ list_all spec.is_written_alike (map vec_items l.files)
