use Rattle.std.proofs.Common.{◌+◌, ◌≤◌, length, map, vec_items, subst, arith, ap, ◌∙◌, sym}
use Rattle.std.proofs.lemmas.List.{length-map, nil_from_length}
use Rattle.texts.specs.Endings.{is_success}
use Rattle.cuda_plans.specs.Schedule.{chunk_of, device_groups, steps}
use Rattle.cuda_plans.proofs.RunningLemmas.{held-test, refused}
use Rattle.cuda_plans.proofs.ScheduleLemmas.{PlanSoFar, plan-left, plan-begins, plan-goes_on, plan-ends, plan-cut, plan-stops, chunks-rise, held-true}
use Rattle.cuda_plans.proofs.execution.run_groups.Goals as goal

pub loop-commands-init : goal.loop-commands-init
loop-commands-init g c =
    let lists = c.into_vec-lists.result in
    let iter = c.into_iter-commands-iterator.ensures.into_iter_gives in
    let before = g.R.Runner.log c.args.runner.now in
    let chunk = chunk_of (device_groups c.args.groups) c.args.num_parallel in
    let whole = ap (map vec_items) iter.0 ∙ c.into_vec-lists.ensures in
    record {
      far = subst (λ o. PlanSoFar chunk before before (steps c.args.groups) 0 (map vec_items c.into_iter-commands-iterator.result.rest.items) 0 o) (sym c.empty_output-joined.ensures)
          (subst (λ l. PlanSoFar chunk before before (steps c.args.groups) 0 l 0 _) (sym whole) (plan-begins chunk before c.args.groups));
      room = omega (arith, c.into_iter-commands-iterator.result.rest.ok.0, iter.2);
      devices = omega (arith, c.saturating_sub-device_groups.ensures, c.len.ensures, lists.ok.0, ap length c.into_vec-lists.ensures, length-map lists.items vec_items);
      ordered = omega arith;
    }

pub loop-commands-preserved : goal.loop-commands-preserved
loop-commands-preserved g c =
    let rises = chunks-rise (device_groups c.args.groups) c.args.num_parallel in
    let number = c.chunk_of-next.ensures ∙ ap (λ d. chunk_of d c.args.num_parallel c.loop-commands.group) c.loop-commands.invariant.devices in
    let test = held-test c.loop-commands.chunk c.chunk_of-next.result c.success-success.result c.is_held_back.result c.loop-commands.joined.status c.success-success.ensures c.is_held_back.ensures in
    let far = plan-left (ap (map vec_items) c.in-Some.ensures.steps.0) c.loop-commands.invariant.far in
    let ordered : c.loop-commands.chunk ≤ c.chunk_of-next.result = omega (arith, c.loop-commands.invariant.ordered, number) in
    record {
      far = plan-goes_on _ rises _ _ _ _ _ _ _ _ _ _ _ far number ordered (test ∙ c.if-is_held_back.false) c.in_ok-joined.ensures;
      room = omega (arith, ap length c.in-Some.ensures.steps.0, c.loop-commands.invariant.room);
      devices = c.loop-commands.invariant.devices;
      ordered = omega (arith, number, rises c.loop-commands.group (c.loop-commands.group + 1) (omega arith));
    }

pub returns-in_err-joined : goal.returns-in_err-joined
returns-in_err-joined g c =
    let rises = chunks-rise (device_groups c.args.groups) c.args.num_parallel in
    let number = c.chunk_of-next.ensures ∙ ap (λ d. chunk_of d c.args.num_parallel c.loop-commands.group) c.loop-commands.invariant.devices in
    let test = held-test c.loop-commands.chunk c.chunk_of-next.result c.success-success.result c.is_held_back.result c.loop-commands.joined.status c.success-success.ensures c.is_held_back.ensures in
    let far = plan-left (ap (map vec_items) c.in-Some.ensures.steps.0) c.loop-commands.invariant.far in
    refused c.from_residual.result _ _ c.from_residual.ensures.0
    (plan-cut _ rises _ _ _ _ _ _ _ _ _ _ far number (test ∙ c.if-is_held_back.false) c.in_err-joined.ensures)

pub returns-then-is_held_back : goal.returns-then-is_held_back
returns-then-is_held_back g c =
    let rises = chunks-rise (device_groups c.args.groups) c.args.num_parallel in
    let number = c.chunk_of-next.ensures ∙ ap (λ d. chunk_of d c.args.num_parallel c.loop-commands.group) c.loop-commands.invariant.devices in
    let test = held-test c.loop-commands.chunk c.chunk_of-next.result c.success-success.result c.is_held_back.result c.loop-commands.joined.status c.success-success.ensures c.is_held_back.ensures in
    let held = held-true c.loop-commands.chunk c.chunk_of-next.result (is_success c.loop-commands.joined.status) (test ∙ c.if-is_held_back.true) in
    plan-stops _ rises _ _ _ _ _ _ _ _ c.loop-commands.invariant.far number held.0 held.1

pub returns : goal.returns
returns g c =
    let log = g.R.Runner.log in
    let before = log c.args.runner.now in
    let after = log c.loop-commands.runner in
    let chunk = chunk_of (device_groups c.args.groups) c.args.num_parallel in
    let all = steps c.args.groups in
    plan-ends chunk before after all c.loop-commands.group c.loop-commands.chunk c.loop-commands.joined
    (subst (λ l. PlanSoFar chunk before after all c.loop-commands.group l c.loop-commands.chunk c.loop-commands.joined)
    (ap (map vec_items) (nil_from_length c.loop-commands.commands-iterator.rest.items (omega (arith, c.loop-commands.commands-iterator.rest.ok.0, c.in-None.ensures.steps.0)))) c.loop-commands.invariant.far)
