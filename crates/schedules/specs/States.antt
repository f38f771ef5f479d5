-- What has become of commands.
use Rattle.std.specs.Prelude.{ℕ, suc, min, List, [], ◌∷◌, Bool, true, false, if◌then◌else◌, length, get_or, nat_lt}
use Rattle.schedules.specs.declared.command.AfterFailure.{AfterFailure}
use Rattle.schedules.specs.declared.command.AfterFailure.TheVariants.{StartNothing, StartEarlier, GoOn}
use Rattle.schedules.specs.declared.command.CommandState.{CommandState}
use Rattle.schedules.specs.declared.command.CommandState.TheVariants as kinds
use Rattle.schedules.specs.declared.command.Outcome.{Outcome}
use Rattle.schedules.specs.declared.command.Outcome.TheVariants as outcomes

abbrev pub is_waiting : CommandState → Bool
is_waiting kinds.NotStarted = true
is_waiting _ = false

abbrev pub is_running : CommandState → Bool
is_running kinds.Running = true
is_running _ = false

abbrev pub is_succeeded : CommandState → Bool
is_succeeded kinds.Succeeded = true
is_succeeded _ = false

-- whether a command ended without success
abbrev pub is_bad : CommandState → Bool
is_bad kinds.Failed = true
is_bad kinds.Cancelled = true
is_bad _ = false

-- the state of the command with a number
abbrev pub state_at : List CommandState → ℕ → CommandState
state_at states n = get_or states n kinds.NotStarted

-- the state of a command that ended
abbrev pub ended_as : Outcome → CommandState
ended_as outcomes.Success = kinds.Succeeded
ended_as outcomes.Failure = kinds.Failed
ended_as outcomes.Cancelled = kinds.Cancelled

-- the number of the first command that ended without success, or how many commands there are
abbrev pub first_bad : List CommandState → ℕ
first_bad [] = 0
first_bad (s ∷ ss) = if is_bad s then 0 else suc (first_bad ss)

-- the number below which commands may start
abbrev pub limit : AfterFailure → List CommandState → ℕ
limit StartNothing ss = if nat_lt (first_bad ss) (length ss) then 0 else length ss
limit StartEarlier ss = first_bad ss
limit GoOn ss = length ss

-- the same number, after the command with a number has ended without success
abbrev pub lowered : AfterFailure → ℕ → ℕ → ℕ
lowered StartNothing limit n = 0
lowered StartEarlier limit n = min limit n
lowered GoOn limit n = limit
