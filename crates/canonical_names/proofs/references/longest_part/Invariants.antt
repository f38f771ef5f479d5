use Rattle.std.proofs.Common.{◌≡◌, map}
use Rattle.texts.specs.Variables.{pair_of}
use Rattle.canonical_names.specs.Counted.{old_names}
use Rattle.canonical_names.specs.References.{longest_in}
use Rattle.canonical_names.proofs.references.longest_part.Given as goal

abbrev pub invariant-loop-length : goal.invariant-loop-length
invariant-loop-length l = longest_in l.text l.length (old_names (map pair_of l.names.entries)) ≡ longest_in l.text l.most (old_names (map pair_of l.names.entries))

abbrev pub decreases-loop-length : goal.decreases-loop-length
decreases-loop-length l = l.length
