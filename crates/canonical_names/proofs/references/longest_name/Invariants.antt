use Rattle.std.proofs.Common.{◌≡◌, map, fold}
use Rattle.texts.specs.Variables.{pair_of}
use Rattle.canonical_names.specs.Counted.{old_names}
use Rattle.canonical_names.specs.References.{longer, longest_in}
use Rattle.canonical_names.proofs.references.longest_name.Given as goal

abbrev pub invariant-loop-name : goal.invariant-loop-name
invariant-loop-name l = fold (longer l.text l.most) l.best (old_names (map pair_of l.name-iterator)) ≡ longest_in l.text l.most (old_names (map pair_of l.names.entries))
