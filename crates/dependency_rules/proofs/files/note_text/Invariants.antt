use Rattle.std.proofs.Common.{◌≡◌, map, vec_items, length}
use Rattle.dependency_rules.specs.Markers as spec
use Rattle.dependency_rules.proofs.files.note_text.Given as goal

abbrev pub invariant-loop-line : goal.invariant-loop-line
invariant-loop-line l = spec.noted_all l.of_system (map vec_items l.names.keys) l.rest ≡ spec.noted_all l.of_system (map vec_items l.initial.names.keys) l.text

abbrev pub decreases-loop-line : goal.decreases-loop-line
decreases-loop-line l = length l.rest
