use Rattle.std.proofs.Common.{◌≡◌, ◌∙◌, arith, ap, suc, [], replicate}
use Rattle.command_groups.proofs.groups.empty_groups.Goals as goal

pub returns : goal.returns
returns g c =
    let count : c.loop.counter ≡ suc (suc c.args.names) = omega (arith, c.loop.auto.counter-end, c.loop-test.false) in
    c.loop.invariant ∙ ap (λ n. replicate n []) count
