-- In which orders the commands of a plan may run: in each that follows the needs of the plan.
use Rattle.std.specs.Prelude.{◌≡◌, ℕ, ◌<◌, List, Bool, true, false, ◌||◌, map, filter, length, get_or}
use Rattle.std.specs.List.{list_all}
use Rattle.compilers.specs.declared.plans.plan.Plan.{Plan}
use Rattle.command_files.specs.declared.steps.Role.{Role}
use Rattle.command_files.specs.declared.steps.Role.TheVariants as roles
use Rattle.command_files.specs.declared.steps.Step.{Step}
use Rattle.command_files.specs.Order.{IsOrder, IsRun, is_in, own_order, has_one_place, Contents, Effect, StaysWithin, DoesTheSame}
use Rattle.command_files.specs.PlanNeeds.{plan_steps, plan_records, plan_needs}

-- whether a role is that of the final group
abbrev pub is_final : Role → Bool
is_final roles.Plain = false
is_final roles.FrontStep = false
is_final roles.DeviceStep = false
is_final roles.Final = true

-- the role of the command with a number
abbrev pub role_at : Plan → ℕ → Role
role_at plan n = get_or (map (λ s. s.role) (plan_steps plan)) n roles.Plain

-- A final command needs all commands before it, and all behind it need it. So it may read and change any file.
abbrev pub FinalHasOnePlace : Type 0
FinalHasOnePlace = (plan : Plan) (n : ℕ) → is_final (role_at plan n) ≡ true → has_one_place (plan_needs plan) n ≡ true

-- all commands of a plan stay within their records but the final ones
abbrev pub OthersStayWithin : Plan → (ℕ → Effect) → Type 0
OthersStayWithin plan effects =
    (n : ℕ) → n < length (plan_records plan) → is_final (role_at plan n) ≡ false → StaysWithin (plan_records plan) (plan_needs plan) n (effects n)

-- An order that puts each command after all those that it needs does what the plan's own order does, whatever the commands do, if
-- those that aren't final stay within their records: it leaves the same in every file, and each command reads the same.
abbrev pub PlanOrdersAgree : Type 0
PlanOrdersAgree =
    (plan : Plan) (order : List ℕ) (effects : ℕ → Effect) (contents : Contents)
    → IsOrder (plan_needs plan) order
    → OthersStayWithin plan effects
    → DoesTheSame (plan_records plan) effects contents order (own_order (plan_needs plan))

-- a run that stops early does what its commands do in the plan's own order
abbrev pub PlanRunsAgree : Type 0
PlanRunsAgree =
    (plan : Plan) (ran : List ℕ) (effects : ℕ → Effect) (contents : Contents)
    → IsRun (plan_needs plan) ran
    → OthersStayWithin plan effects
    → DoesTheSame (plan_records plan) effects contents ran (filter (is_in ran) (own_order (plan_needs plan)))

-- the plan's own order is such an order
abbrev pub PlanOrderIsOne : Type 0
PlanOrderIsOne = (plan : Plan) → IsOrder (plan_needs plan) (own_order (plan_needs plan))

-- What can be computed of the premise: whether the records of a plan say enough.

-- whether a command's record has all files of the plan that it touches: it is complete, or the command only preprocesses. Then it reads
-- the source and headers, and no command of a plan writes these.
abbrev pub is_recorded : Step → Bool
is_recorded s = s.files.complete || s.preprocesses

-- whether each command of a plan is final or recorded. It isn't, for example, if a line of cicc can't be read.
abbrev pub keeps_orders : Plan → Bool
keeps_orders plan = list_all (λ s. is_final s.role || is_recorded s) (plan_steps plan)

abbrev pub recorded_at : Plan → ℕ → Bool
recorded_at plan n = get_or (map is_recorded (plan_steps plan)) n false

-- then it's enough that the recorded commands stay within their records
abbrev pub RecordsSuffice : Type 0
RecordsSuffice =
    (plan : Plan) (effects : ℕ → Effect)
    → keeps_orders plan ≡ true
    → ((n : ℕ) → recorded_at plan n ≡ true → StaysWithin (plan_records plan) (plan_needs plan) n (effects n))
    → OthersStayWithin plan effects
