use Rattle.std.proofs.Common.{◌≡◌, drop, nat_eq}
use Rattle.std.specs.Cmp.Lexicographic.{pointwise}
use Rattle.canonical_names.proofs.suffixes.SuffixesPartialEq.eq.Given as goal

abbrev pub invariant-loop-index : goal.invariant-loop-index
invariant-loop-index l = pointwise (pointwise nat_eq) (drop l.index l.self) (drop l.index l.other) ≡ pointwise (pointwise nat_eq) l.self l.other
