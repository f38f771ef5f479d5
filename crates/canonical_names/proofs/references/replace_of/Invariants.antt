use Rattle.std.proofs.Common.{◌≡◌, map, string_bytes}
use Rattle.texts.specs.Variables.{pair_of}
use Rattle.canonical_names.specs.References.{replaced_by_length}
use Rattle.canonical_names.proofs.references.replace_of.Given as goal

abbrev pub invariant-loop-name : goal.invariant-loop-name
invariant-loop-name l = replaced_by_length l.length (map pair_of l.name-iterator) (string_bytes l.new) ≡ replaced_by_length l.length (map pair_of l.names.entries) (string_bytes l.fn.text)
