use Rattle.std.proofs.Common.{◌≡◌, ◌++◌, map, vec_items, drop}
use Rattle.compilers.specs.Listed.{listed_from, listed}
use Rattle.compilers.proofs.plans.plan.Groups.listed.Given as goal

abbrev pub invariant-loop-group : goal.invariant-loop-group
invariant-loop-group l = l.listed.items ++ listed_from l.group (map vec_items (drop l.group l.groups)) ≡ listed (map vec_items l.groups)
