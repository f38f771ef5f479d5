-- The names of the reasons for which a command is in no group.
use Rattle.std.specs.Prelude.{ℕ, List, codes}
use Rattle.compilers.specs.declared.plans.plan.Reason.{Reason}
use Rattle.compilers.specs.declared.plans.plan.Reason.TheVariants.{NotCuda, NoCiccGroup, NoPtxasGroup, Superseded}

-- a reason's name
abbrev pub reason_name : Reason → List ℕ
reason_name NotCuda = codes "NotCuda"
reason_name NoCiccGroup = codes "NoCiccGroup"
reason_name NoPtxasGroup = codes "NoPtxasGroup"
reason_name Superseded = codes "Superseded"
