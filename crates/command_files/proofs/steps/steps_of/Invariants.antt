use Rattle.std.proofs.Common.{◌≡◌, ◌++◌, map, drop}
use Rattle.command_files.specs.PlanNeeds.{step_in, plan_steps}
use Rattle.command_files.proofs.steps.steps_of.Given as goal

-- the steps so far, and those of the commands that are left, are all
abbrev pub invariant-loop-listed : goal.invariant-loop-listed
invariant-loop-listed l = l.steps.items ++ map (step_in l.count) (drop l.listed-index l.listed-items) ≡ plan_steps l.fn.plan
