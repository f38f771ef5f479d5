use Rattle.std.proofs.Common.{◌≡◌, true, List, ℕ, nat_le, length, subst}
use Rattle.std.specs.List.{list_all}
use Rattle.canonical_names.specs.SuffixRule.{suffixes_or_standard}
use Rattle.canonical_names.proofs.DotLemmas.{least-one}
use Rattle.canonical_names.proofs.SuffixLemmas.{each-suffix}
use Rattle.canonical_names.proofs.suffixes.Suffixes.least_length.Goals as goal

pub returns-in-Some : goal.returns-in-Some
returns-in-Some c = subst (λ (xs : List (List ℕ)). list_all (λ s. nat_le 1 (length s)) xs ≡ true) c.self.view_is (least-one (suffixes_or_standard c.self.inside.handed) (each-suffix (suffixes_or_standard c.self.inside.handed) c.self.invariant))
