use Rattle.std.proofs.Common.{◌≡◌, ◌++◌, string_bytes, vec_items, map, drop}
use Rattle.plan_texts.specs.ShownPlan.{show_groups}
use Rattle.plan_texts.proofs.plan.push_groups.Given as goal

abbrev pub invariant-loop-number : goal.invariant-loop-number
invariant-loop-number l = string_bytes l.text ++ show_groups l.number (map vec_items (drop l.number l.groups)) ≡ string_bytes l.fn.text ++ show_groups 0 (map vec_items l.groups)
