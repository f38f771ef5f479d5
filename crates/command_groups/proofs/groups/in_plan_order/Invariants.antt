use Rattle.std.proofs.Common.{◌≡◌, ◌++◌, map, vec_items, flat_map}
use Rattle.command_groups.proofs.groups.in_plan_order.Given as goal

abbrev pub invariant-loop-group : goal.invariant-loop-group
invariant-loop-group l = l.origins.items ++ flat_map (λ group. group) (map vec_items l.group-iterator.rest.items) ≡ flat_map (λ group. group) (map vec_items l.fn.groups.items)
