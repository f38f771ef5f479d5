use Rattle.std.proofs.Common.{◌≡◌, map, drop, option_copied}
use Rattle.texts.specs.Lists.{latest}
use Rattle.command_keys.specs.Keys.{shown_variable}
use Rattle.command_keys.specs.ToolVariables.{last_value}
use Rattle.command_keys.proofs.environment.last_value.Given as goal

abbrev pub invariant-loop-variable : goal.invariant-loop-variable
invariant-loop-variable l =
    latest (option_copied l.last) (last_value l.name (map shown_variable (drop l.variable-index l.environment)))
    ≡ last_value l.name (map shown_variable l.environment)
