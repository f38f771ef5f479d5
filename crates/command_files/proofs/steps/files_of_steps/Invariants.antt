use Rattle.std.proofs.Common.{◌≡◌, ◌++◌, map}
use Rattle.command_files.proofs.steps.files_of_steps.Given as goal

-- the files so far, and those of the commands that are left, are all
abbrev pub invariant-loop-step : goal.invariant-loop-step
invariant-loop-step l = l.files.items ++ map (λ s. s.files) l.step-iterator.rest.items ≡ map (λ s. s.files) l.fn.steps.items
