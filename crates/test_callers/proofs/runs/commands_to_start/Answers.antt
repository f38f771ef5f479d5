use Rattle.std.proofs.Common.{◌∙◌, ℕ, List, ap, sym, map, subst, Result, Ok, Err}
use Rattle.cuda_plans.specs.declared.fault.Fault.{Fault}
use Rattle.cuda_plans.specs.declared.plan.Plan.{Plan}
use Rattle.cuda_plans.specs.Fault.{UnlessMemory}
use Rattle.cuda_plans.specs.NvccPlan.{planned}
use Rattle.cuda_plans.specs.Schedule.{Step, Gains, ExecutesAs}
use Rattle.test_callers.specs.Runs.{entry_of, steps_of}
use Rattle.test_callers.proofs.RunLemmas.{recorded, not-recorded, passed-on}
use Rattle.test_callers.proofs.runs.commands_to_start.Goals as goal

pub returns : goal.returns
returns g c =
    let call = c.args.call.now in
    let plan : List (List ℕ) → Result Plan Fault = λ suffixes. planned call suffixes (g.W.Which.answer c.args.which.now) c.args.dry1.now c.args.dry2.now in
    let ran = subst (λ l. Gains (map entry_of l) (map entry_of c.execute.new.runner.started.items) (λ account. ExecutesAs (plan c.standard-suffixes.result) call.num_parallel account (Ok c.in_ok-execute.field-0))) c.new.ensures.items c.in_ok-execute.ensures in
    ap (λ suffixes. steps_of (plan suffixes)) (sym c.standard-suffixes.ensures) ∙ recorded (plan c.standard-suffixes.result) call.num_parallel c.execute.new.runner c.in_ok-execute.field-0 ran

pub returns-in_err-execute : goal.returns-in_err-execute
returns-in_err-execute g c =
    let call = c.args.call.now in
    let plan : List (List ℕ) → Result Plan Fault = λ suffixes. planned call suffixes (g.W.Which.answer c.args.which.now) c.args.dry1.now c.args.dry2.now in
    let fault = c.in_err-execute.field-0.0 in
    let ran = subst (λ l. Gains (map entry_of l) (map entry_of c.execute.new.runner.started.items) (λ account. ExecutesAs (plan c.standard-suffixes.result) call.num_parallel account (Err fault))) c.new.ensures.items c.in_err-execute.ensures in
    passed-on c.from_residual.result fault _ c.from_residual.ensures.1
    (subst (λ suffixes. UnlessMemory {T = List Step} (Err fault) (steps_of (plan suffixes))) c.standard-suffixes.ensures
    (not-recorded (plan c.standard-suffixes.result) call.num_parallel c.execute.new.runner.started.items fault ran))
