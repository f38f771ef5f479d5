use Rattle.std.proofs.Common.{nat_eq}
use Rattle.std.specs.Cmp.Lexicographic.{pointwise}
use Rattle.std.proofs.lemmas.Slice.Eq.{bytes_eq-Decides}
use Rattle.texts.proofs.EqualityLemmas.{lists}
use Rattle.canonical_names.proofs.laws.equality.Goals as goal

pub returns : goal.returns
returns c = record { suffixes = lists (pointwise nat_eq) bytes_eq-Decides }
