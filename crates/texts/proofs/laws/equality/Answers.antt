use Rattle.std.proofs.Common.{nat_eq}
use Rattle.std.specs.Cmp.Lexicographic.{pointwise}
use Rattle.std.proofs.lemmas.Slice.Eq.{bytes_eq-Decides}
use Rattle.texts.proofs.EqualityLemmas.{lists, variables}
use Rattle.texts.proofs.laws.equality.Goals as goal

pub returns-clause-words : goal.returns-clause-words
returns-clause-words c = lists (pointwise nat_eq) bytes_eq-Decides

pub returns-clause-variables : goal.returns-clause-variables
returns-clause-variables c = variables
