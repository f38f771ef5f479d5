use Rattle.std.proofs.Common.{◌≡◌, drop, nat_eq}
use Rattle.std.specs.List.{find, ends_with}
use Rattle.canonical_names.specs.Generated.{class_of_name}
use Rattle.canonical_names.proofs.suffixes.Suffixes.class.Given as goal

abbrev pub invariant-loop-index : goal.invariant-loop-index
invariant-loop-index l = find (ends_with nat_eq l.name) (drop l.index l.self) ≡ class_of_name l.self l.name
