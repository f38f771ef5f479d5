use Rattle.std.proofs.Common.{arith}
use Rattle.std.proofs.lemmas.List.{map-append}
use Rattle.std.proofs.lemmas.Grind.{common_steps}
use Rattle.texts.proofs.ListLemmas.{same-or-cloned-pairs, on-error}
use Rattle.texts.proofs.variables.Variables.push.Goals as goal

pub returns-in_err-make_mut-in-Shared-clause-err : goal.returns-in_err-make_mut-in-Shared-clause-err
returns-in_err-make_mut-in-Shared-clause-err c = grind (arith, common_steps, on-error, same-or-cloned-pairs)

pub returns-in_err-push-in-Shared-clause-err : goal.returns-in_err-push-in-Shared-clause-err
returns-in_err-push-in-Shared-clause-err c = grind (arith, common_steps, on-error, same-or-cloned-pairs)

pub returns-clause-ok : goal.returns-clause-ok
returns-clause-ok c = grind (arith, common_steps, map-append, same-or-cloned-pairs)
