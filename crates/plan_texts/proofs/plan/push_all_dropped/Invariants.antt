use Rattle.std.proofs.Common.{◌≡◌, ◌++◌, string_bytes, drop, flat_map}
use Rattle.plan_texts.specs.ShownPlan.{show_dropped}
use Rattle.plan_texts.proofs.plan.push_all_dropped.Given as goal

abbrev pub invariant-loop-command : goal.invariant-loop-command
invariant-loop-command l = string_bytes l.text ++ flat_map show_dropped (drop l.command-index l.dropped) ≡ string_bytes l.initial.text ++ flat_map show_dropped l.dropped
