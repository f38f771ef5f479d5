use Rattle.std.proofs.Common.{◌≡◌, ◌++◌, string_bytes, drop, flat_map}
use Rattle.plan_texts.specs.ShownPlan.{show_subcommand}
use Rattle.plan_texts.proofs.plan.push_subcommands.Given as goal

abbrev pub invariant-loop-command : goal.invariant-loop-command
invariant-loop-command l = string_bytes l.text ++ flat_map show_subcommand (drop l.command-index l.group) ≡ string_bytes l.initial.text ++ flat_map show_subcommand l.group
