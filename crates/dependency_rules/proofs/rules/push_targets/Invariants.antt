use Rattle.std.proofs.Common.{◌≡◌, ◌++◌, map, vec_items, drop}
use Rattle.std.specs.List.{flat_map}
use Rattle.dependency_rules.specs.Rules as spec
use Rattle.dependency_rules.proofs.rules.push_targets.Given as goal

abbrev pub invariant-loop-file : goal.invariant-loop-file
invariant-loop-file l = l.text.items ++ flat_map spec.target_alone (map vec_items (drop l.file-index l.files)) ≡ l.initial.text.items ++ flat_map spec.target_alone (map vec_items l.files)
