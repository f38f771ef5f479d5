use Rattle.std.proofs.Common.{◌≡◌, drop, nat_eq}
use Rattle.std.specs.List.{list_any, starts_with}
use Rattle.canonical_names.proofs.suffixes.Suffixes.follow_dot.Given as goal

abbrev pub invariant-loop-index : goal.invariant-loop-index
invariant-loop-index l = list_any (λ s. starts_with nat_eq l.text (drop 1 s)) (drop l.index l.self) ≡ list_any (λ s. starts_with nat_eq l.text (drop 1 s)) l.self
