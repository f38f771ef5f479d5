use Rattle.std.proofs.Common.{◌≡◌, ◌++◌, map, vec_items, take, drop}
use Rattle.command_files.specs.declared.steps.Role.TheVariants.{DeviceStep, Final}
use Rattle.command_files.specs.Order.{needs_behind, needs_by}
use Rattle.command_files.specs.PlanNeeds.{step_needs}
use Rattle.command_files.specs.Touched.{readers_seen, writers_seen, readers_before, writers_before, role_numbers}
use Rattle.command_files.proofs.needed.needs_of_steps.Given as goal

-- the files are those of the commands so far; the needs so far, and those of the commands that are left, are all
abbrev pub invariant-loop-number : goal.invariant-loop-number
invariant-loop-number l =
    (readers_seen l.touched ≡ readers_before l.number l.steps)
    × (writers_seen l.touched ≡ writers_before l.number l.steps)
    × (l.by_role.fronts.items ≡ role_numbers DeviceStep l.steps)
    × (l.by_role.all.items ≡ role_numbers Final l.steps)
    × (map vec_items l.needs.items ++ needs_behind step_needs (take l.number l.steps) (drop l.number l.steps) ≡ needs_by step_needs l.steps)
