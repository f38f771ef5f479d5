use Rattle.std.proofs.Common.{◌≡◌, IfOk, subst}
use Rattle.call_tasks.proofs.HalfLemmas.{split-others}
use Rattle.call_tasks.proofs.halves.split_of_others.Goals as goal

pub returns-in-Some : goal.returns-in-Some
returns-in-Some c =
    subst (λ whole. IfOk c.split_behind.result (λ split. split ≡ whole))
    (split-others c.args.own.now c.args.compile.now c.in-Some.fatbinary.now c.in-Some.before.now c.args.others.now c.in-Some.ensures.cases.0)
    c.split_behind.ensures
