use Rattle.std.proofs.Common.{arith}
use Rattle.texts.proofs.ListLemmas.{same-or-cloned-pairs}
use Rattle.texts.proofs.variables.Variables.into_vec.Goals as goal

pub returns-in_ok-own-in-Shared : goal.returns-in_ok-own-in-Shared
returns-in_ok-own-in-Shared c = grind (arith, (same-or-cloned-pairs _ _ c.in_ok-own-in-Shared.ensures.ok))
