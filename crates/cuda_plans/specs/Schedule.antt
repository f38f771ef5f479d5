-- In which order a plan's commands run, which of them run at all once one fails, and what comes of it.
use Rattle.std.specs.Prelude.{◌≡◌, ℕ, ◌+◌, ◌-◌, ◌/◌, min, max, List, [], ◌∷◌, ◌++◌, Bool, true, false, not, ◌&&◌, ◌||◌, ◌==◌, nat_lt, nat_le, if◌then◌else◌, length, map, filter, fold, Result, Ok, Err, MatchBool}
use Rattle.std.specs.List.{list_any}
use Rattle.texts.specs.declared.fault.Fault.{Fault}
use Rattle.texts.specs.declared.fault.Fault.TheVariants.{Process, Memory}
use Rattle.texts.specs.declared.status.Output.{Output}
use Rattle.texts.specs.Endings.{is_success}
use Rattle.texts.specs.Fault.{UnlessMemory}
use Rattle.compilers.specs.declared.plans.plan.NvccGeneratedSubcommand.{NvccGeneratedSubcommand}
use Rattle.compilers.specs.declared.plans.plan.Plan.{Plan}
use Rattle.cuda_plans.specs.declared.runner.Answer.{Answer}
use Rattle.cuda_plans.specs.declared.runner.Place.{Place}
use Rattle.cuda_plans.specs.Outcome.{output_of_answer, aggregated, empty_success}

-- A command of a plan, at its place.
pub record Step : Type 0 where
  pub place : Place
  pub command : NvccGeneratedSubcommand

-- a group's command at its place, and the commands of a group from a place on
abbrev pub step_at : ℕ → ℕ → NvccGeneratedSubcommand → Step
step_at group index command = record { place = record { group = group; index = index }; command = command }

abbrev pub steps_of_group : ℕ → ℕ → List NvccGeneratedSubcommand → List Step
steps_of_group group index [] = []
steps_of_group group index (c ∷ cs) = step_at group index c ∷ steps_of_group group (index + 1) cs

-- the commands of groups that are numbered from a number on, one group after the other
abbrev pub steps_from : ℕ → List (List NvccGeneratedSubcommand) → List Step
steps_from group [] = []
steps_from group (g ∷ gs) = steps_of_group group 0 g ++ steps_from (group + 1) gs

-- the commands of a plan's groups in the order of their places
abbrev pub steps : List (List NvccGeneratedSubcommand) → List Step
steps groups = steps_from 0 groups

-- The groups of a plan run in chunks: the front group, the device groups by so many at a time, the final group. Groups of
-- one chunk don't wait for one another's success.

-- how many of the device groups a chunk has, if `parallel` of them are to run at once: at least one
abbrev pub chunk_size : ℕ → ℕ → ℕ
chunk_size device_groups parallel = max 1 (min device_groups parallel)

-- the number of a group's chunk: 0 for the front group, then the device groups' chunks, and the final group's is last
abbrev pub chunk_of : ℕ → ℕ → ℕ → ℕ
chunk_of device_groups parallel group =
    if group == 0 then 0 else (if nat_le group device_groups then 1 + (group - 1) / chunk_size device_groups parallel else device_groups + 1)

-- the device groups of a plan: all but the outer two
abbrev pub device_groups : List (List NvccGeneratedSubcommand) → ℕ
device_groups groups = length groups - 2

-- An account: what a runner was handed, and what it answered, in order.
pub record AccountEntry : Type 0 where
  pub place : Place
  pub command : NvccGeneratedSubcommand
  pub answer : Answer

-- the entry of a step by an answer to its command
abbrev pub answered : Place → NvccGeneratedSubcommand → Answer → AccountEntry
answered place command answer = record { place = place; command = command; answer = answer }

-- the output of an entry's answer, and whether it fails: its status isn't success
abbrev pub output_of_entry : AccountEntry → Output
output_of_entry e = output_of_answer e.command.exe e.answer

abbrev pub fails : AccountEntry → Bool
fails e = not (is_success (output_of_entry e).status)

-- whether the command at `p` isn't run if the one at `q` fails: `q` is earlier in the same group, or in an earlier chunk
abbrev pub depends_on : (ℕ → ℕ) → Place → Place → Bool
depends_on chunk p q = ((q.group == p.group) && nat_lt q.index p.index) || nat_lt (chunk q.group) (chunk p.group)

-- whether a command is due by an account: it depends on no place whose answer failed
abbrev pub is_due : (ℕ → ℕ) → List AccountEntry → Step → Bool
is_due chunk account step = not (list_any (λ e. depends_on chunk step.place e.place && fails e) account)

-- the due commands of a plan's groups by an account, with `parallel` device groups at once, in order
abbrev pub due_steps : List (List NvccGeneratedSubcommand) → ℕ → List AccountEntry → List Step
due_steps groups parallel account = filter (is_due (chunk_of (device_groups groups) parallel) account) (steps groups)

-- the command of an entry, at its place
abbrev pub step_of : AccountEntry → Step
step_of e = record { place = e.place; command = e.command }

-- an account follows a plan if it is of a beginning of the due commands, each at its place
abbrev pub Follows : List (List NvccGeneratedSubcommand) → ℕ → List AccountEntry → Type 0
Follows groups parallel account = (rest : List Step) × (due_steps groups parallel account ≡ map step_of account ++ rest)

-- and it is whole if it is of all of them
abbrev pub IsWhole : List (List NvccGeneratedSubcommand) → ℕ → List AccountEntry → Type 0
IsWhole groups parallel account = due_steps groups parallel account ≡ map step_of account

-- the output of an account: the outputs of its answers, joined
abbrev pub output_of_account : List AccountEntry → Output
output_of_account account = fold aggregated empty_success (map output_of_entry account)

-- what comes of a whole account: its output, as a refusal if an answer failed
abbrev pub outcome_of : List AccountEntry → Result Output Fault
outcome_of account = if list_any fails account then Err (Process (output_of_account account)) else Ok (output_of_account account)

-- What a run of a plan's groups says, of the account that it gained.

-- a refusal for want of memory is of an account that follows the plan, and any other of a whole one that has a failure
abbrev pub RefusesAs : List (List NvccGeneratedSubcommand) → ℕ → List AccountEntry → Fault → Type 0
RefusesAs groups parallel account Memory = Follows groups parallel account
RefusesAs groups parallel account fault = IsWhole groups parallel account × (outcome_of account ≡ Err fault)

-- an output is of a whole account without a failure, whose outputs are joined in it
abbrev pub RunsAs : List (List NvccGeneratedSubcommand) → ℕ → List AccountEntry → Result Output Fault → Type 0
RunsAs groups parallel account (Ok output) = IsWhole groups parallel account × (outcome_of account ≡ Ok output)
RunsAs groups parallel account (Err fault) = RefusesAs groups parallel account fault

-- of what was planned: a plan is run, and where there is none, nothing ran and the refusal is the planning's, want of
-- memory aside
abbrev pub ExecutesAs : Result Plan Fault → ℕ → List AccountEntry → Result Output Fault → Type 0
ExecutesAs (Ok plan) parallel account result = RunsAs plan.groups parallel account result
ExecutesAs (Err fault) parallel account result = (account ≡ []) × UnlessMemory result (Err fault)

-- a list of entries that became another by an account of which a fact holds, put behind it
abbrev pub Gains : List AccountEntry → List AccountEntry → (List AccountEntry → Type 0) → Type 0
Gains before after P = (account : List AccountEntry) × (after ≡ before ++ account) × P account

-- no element is left where an account is to reach the end
abbrev pub NoneLeft : {X : Type 0} → Bool → List X → Type 0
NoneLeft true left = left ≡ []
NoneLeft false left = Unit {0}

-- whether an account is that of a group's commands from a number on: each at its place, and none behind a failure; it
-- reaches the group's end or a failure, unless it may stop anywhere
abbrev pub OfGroup : Bool → ℕ → ℕ → List AccountEntry → List NvccGeneratedSubcommand → Type 0
OfGroup to_end group index [] commands = NoneLeft to_end commands
OfGroup to_end group index (e ∷ es) [] = ⊥
OfGroup to_end group index (e ∷ es) (c ∷ cs) = (step_of e ≡ step_at group index c) × MatchBool (fails e) (es ≡ []) (OfGroup to_end group (index + 1) es cs)
