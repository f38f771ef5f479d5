use Rattle.std.proofs.Common.{arith}
use Rattle.std.proofs.lemmas.Bool.{false≢true}
use Rattle.std.proofs.lemmas.Bool.Decides.{Decides-eqb, nat_tests}
use Rattle.std.proofs.lemmas.List.{length-append, get_or_append_left}
use Rattle.texts.proofs.RestLemmas.{rest_after-none}
use Rattle.compilers.proofs.table.may_begin.Goals as goal

pub returns-else-length-eq0 : goal.returns-else-length-eq0
returns-else-length-eq0 c = grind (arith, rest_after-none, false≢true, Decides-eqb, get_or_append_left)

pub returns-else-length-word : goal.returns-else-length-word
returns-else-length-word c = grind (arith, rest_after-none, length-append, nat_tests)
