-- A plan's data says all of the plan.
use Rattle.std.specs.Prelude.{◌≡◌, ◌<◌, ◌-◌, ◌^◌, length}
use Rattle.std.specs.List.{AllByRecursion}
use Rattle.compilers.specs.Listed.{listed}
use Rattle.plan_json.specs.Json.{Described, data_of}

-- a plan that has an origin for each command, and whose lines are below the greatest number that there is
pub record IsDescribed (d : Described) : Type 0 where
  pub origins : length d.planned.origins ≡ length (listed d.planned.plan.groups)
  pub lines : AllByRecursion (λ o. o.line < 2 ^ 64 - 1) d.planned.origins
  pub dropped : AllByRecursion (λ c. c.line < 2 ^ 64 - 1) d.planned.plan.dropped

-- two such plans with the same data are the same: what they were made for, each command and where it comes from
abbrev pub DataIsOneToOne : Type 0
DataIsOneToOne = (one other : Described) → IsDescribed one → IsDescribed other → data_of one ≡ data_of other → one ≡ other
