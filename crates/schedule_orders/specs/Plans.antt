-- The products of plans: of one, and of several in one graph.
use Rattle.std.specs.Prelude.{◌≡◌, ℕ, ◌<◌, ◌≤◌, List, [], ◌∷◌, ◌++◌, Bool, true, false, ◌&&◌, not, map, length, get_or}
use Rattle.std.specs.List.{list_all}
use Rattle.compilers.specs.declared.plans.plan.Plan.{Plan}
use Rattle.command_files.specs.Files.{Files, must_follow}
use Rattle.command_files.specs.Order.{Effect, StaysWithin, Hold}
use Rattle.command_files.specs.Overlap.{ArePartsOf, part_records}
use Rattle.command_files.specs.PlanNeeds.{plan_records, plan_needs}
use Rattle.command_files.specs.PlanOrders.{is_final, role_at}
use Rattle.schedules.specs.Graphs.{joined_from}
use Rattle.schedule_orders.specs.Closed.{closed}
use Rattle.schedule_orders.specs.Products.{needs_of_parts, PartsStayWithin}

-- One plan.

-- the commands of a plan of which either writes a file that the other touches are ordered by its needs
abbrev pub PlanHolds : Type 0
PlanHolds = (plan : Plan) → Hold must_follow (plan_records plan) (closed (plan_needs plan))

-- the commands that aren't final stay within their records, part by part
abbrev pub OthersStayWithin : Plan → List ℕ → (ℕ → Effect) → Type 0
OthersStayWithin plan parts effects =
    (i : ℕ) → i < length parts → is_final (role_at plan (get_or parts i 0)) ≡ false → StaysWithin (part_records (plan_records plan) parts) (needs_of_parts (plan_needs plan) parts) i (effects i)

-- that is enough: final commands may read and change any file
abbrev pub OthersSuffice : Type 0
OthersSuffice = (plan : Plan) (parts : List ℕ) (effects : ℕ → Effect)
    → ArePartsOf (plan_records plan) parts
    → OthersStayWithin plan parts effects
    → PartsStayWithin (plan_records plan) (plan_needs plan) parts effects

-- Several plans in one graph.

abbrev pub all_records : List Plan → List Files
all_records [] = []
all_records (plan ∷ plans) = plan_records plan ++ all_records plans

abbrev pub all_needs : List Plan → List (List ℕ)
all_needs plans = joined_from 0 (map plan_needs plans)

-- whether no command of the first list writes a file that one of the second touches, or touches one that it writes
abbrev pub are_apart : List Files → List Files → Bool
are_apart some others = list_all (λ f. list_all (λ g. not (must_follow f g)) others) some

-- whether this is so of any two plans
abbrev pub all_apart : List Plan → Bool
all_apart [] = true
all_apart (plan ∷ plans) = are_apart (plan_records plan) (all_records plans) && all_apart plans

-- then the commands of all of them that share a file are ordered, by the needs of their own plan, if there are less than 2^64 of them
abbrev pub PlansHold : Type 0
PlansHold = (plans : List Plan) → all_apart plans ≡ true → length (all_records plans) ≤ 18446744073709551615 → Hold must_follow (all_records plans) (closed (all_needs plans))
