use Rattle.std.proofs.Common.{◌≡◌, [], map, replicate, vec_items}
use Rattle.command_groups.proofs.groups.empty_groups.Given as goal

-- as many empty groups as steps were taken
abbrev pub invariant-loop : goal.invariant-loop
invariant-loop g l = map vec_items l.groups.items ≡ replicate l.counter []
