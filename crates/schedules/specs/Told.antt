-- Which outputs may be printed: those of a plan in its own order, up to the first failure.
use Rattle.std.specs.Prelude.{ℕ, ◌+◌, ◌-◌, List, [], ◌∷◌, take, drop}
use Rattle.schedules.specs.declared.command.CommandState.{CommandState}
use Rattle.schedules.specs.declared.command.CommandState.TheVariants as kinds
use Rattle.schedules.specs.declared.command.PlanStatus.TheVariants as statuses
use Rattle.schedules.specs.declared.command.Told.{Told}

-- the outputs of commands from a number on: as long as they succeeded, and that of the first one that failed
abbrev pub told_from : ℕ → List CommandState → Told
told_from n [] = record { end = n; status = statuses.Succeeded }
told_from n (kinds.Succeeded ∷ ss) = told_from (n + 1) ss
told_from n (kinds.Failed ∷ ss) = record { end = n + 1; status = statuses.Failed }
told_from n (_ ∷ ss) = record { end = n; status = statuses.Unfinished }

-- the states of the commands from one number up to another, without that one itself
abbrev pub between : List CommandState → ℕ → ℕ → List CommandState
between states first end = take (end - first) (drop first states)

abbrev pub told : List CommandState → ℕ → ℕ → Told
told states first end = told_from first (between states first end)
