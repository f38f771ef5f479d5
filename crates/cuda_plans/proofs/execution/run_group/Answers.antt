use Rattle.std.proofs.Common.{◌+◌, length, arith, not, ap, ◌∙◌}
use Rattle.std.proofs.lemmas.List.{nil_from_length}
use Rattle.cuda_plans.proofs.RunningLemmas.{group-left, group-goes_on, group-fails, group-ends, group-cut, group-cut_joining, fails-is, refused}
use Rattle.cuda_plans.proofs.execution.run_group.Goals as goal

pub returns-in_err-left : goal.returns-in_err-left
returns-in_err-left g c =
    refused c.from_residual.result _ _ c.from_residual.ensures.0
    (group-cut _ _ _ _ _ _ _ _ _ _ (group-left c.in-Some.ensures.steps.0 c.loop-command.invariant.far) c.in_err-left.ensures)

pub returns-in_err-joined : goal.returns-in_err-joined
returns-in_err-joined g c =
    let entry = c.in_ok-left.ensures in
    refused c.from_residual-in_err-joined.result _ _ c.from_residual-in_err-joined.ensures.0
    (group-cut_joining _ _ _ _ _ _ _ _ _ _ (group-left c.in-Some.ensures.steps.0 c.loop-command.invariant.far) entry.0 entry.1 entry.2)

pub returns-then-not-success : goal.returns-then-not-success
returns-then-not-success g c =
    let entry = c.in_ok-left.ensures in
    group-fails _ _ _ _ _ _ _ _ _ _ _ _ (group-left c.in-Some.ensures.steps.0 c.loop-command.invariant.far) entry.0 entry.1 entry.2 entry.3
    (fails-is entry.0 _ _ entry.3 c.success-success.ensures ∙ ap not c.if-not-success.true) c.in_ok-joined.ensures

pub loop-command-preserved : goal.loop-command-preserved
loop-command-preserved g c =
    let entry = c.in_ok-left.ensures in
    record {
      far = group-goes_on _ _ _ _ _ _ _ _ _ _ _ _ (group-left c.in-Some.ensures.steps.0 c.loop-command.invariant.far) entry.0 entry.1 entry.2 entry.3
          (fails-is entry.0 _ _ entry.3 c.success-success.ensures ∙ ap not c.if-not-success.false) c.in_ok-joined.ensures;
      room = omega (arith, ap length c.in-Some.ensures.steps.0, c.loop-command.invariant.room);
    }

pub returns : goal.returns
returns g c =
    group-ends _ _ _ _ _ _ _
    (group-left (nil_from_length c.loop-command.command-iterator.rest.items (omega (arith, c.loop-command.command-iterator.rest.ok.0, c.in-None.ensures.steps.0))) c.loop-command.invariant.far)
