-- The record of a runner that starts nothing.
use Rattle.std.specs.Prelude.{List, map, Result, Ok, Err}
use Rattle.cuda_plans.specs.declared.fault.Fault.{Fault}
use Rattle.cuda_plans.specs.declared.plan.Plan.{Plan}
use Rattle.cuda_plans.specs.declared.runner.Answer.TheVariants.{Ran}
use Rattle.cuda_plans.specs.Outcome.{empty_success}
use Rattle.cuda_plans.specs.Schedule.{Step, AccountEntry, steps}
use Rattle.test_callers.specs.declared.runs.Recorder.{Recorder}
use Rattle.test_callers.specs.declared.runs.Started.{Started}

-- the entry of a command that was recorded: it succeeded
abbrev pub entry_of : Started → AccountEntry
entry_of s = record { place = s.place; command = s.command; answer = Ran empty_success }

-- recorded commands, each at its place
abbrev pub step_seen : Started → Step
step_seen s = record { place = s.place; command = s.command }

-- the commands of a plan, each at its place, or why there is no plan
abbrev pub steps_of : Result Plan Fault → Result (List Step) Fault
steps_of (Ok plan) = Ok (steps plan.groups)
steps_of (Err fault) = Err fault

-- the same of a recorder, or a refusal
abbrev pub steps_seen : Result Recorder Fault → Result (List Step) Fault
steps_seen (Ok recorder) = Ok (map step_seen recorder.started.items)
steps_seen (Err fault) = Err fault
