use Rattle.std.proofs.Common.{◌≡◌, map, vec_items, drop, fold}
use Rattle.dependency_rules.specs.Markers as spec
use Rattle.dependency_rules.proofs.files.files_of.Given as goal

abbrev pub invariant-loop-text : goal.invariant-loop-text
invariant-loop-text l = fold (spec.noted_all l.of_system) (map vec_items l.names.keys) (drop l.text-index l.texts) ≡ spec.files_of l.of_system l.source l.texts
