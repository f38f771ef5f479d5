use Rattle.std.proofs.Common.{◌≡◌, map, drop}
use Rattle.texts.specs.Variables.{pair_of}
use Rattle.canonical_names.specs.Counted.{old_names}
use Rattle.canonical_names.specs.References.{windows_are}
use Rattle.canonical_names.proofs.references.stand_of.Given as goal

abbrev pub invariant-loop-start : goal.invariant-loop-start
invariant-loop-start l = windows_are l.length (old_names (map pair_of l.names.entries)) (drop l.start l.text) ≡ windows_are l.length (old_names (map pair_of l.names.entries)) l.text
