use Rattle.std.proofs.Common.{◌≡◌, ◌++◌, map, drop, flat_map}
use Rattle.command_keys.specs.Keys.{shown, shown_variable}
use Rattle.command_keys.specs.ToolVariables.{variable_of}
use Rattle.command_keys.proofs.environment.push_set.Given as goal

abbrev pub invariant-loop-name : goal.invariant-loop-name
invariant-loop-name l =
    map shown_variable l.chosen.items ++ flat_map (variable_of (map shown_variable l.environment)) (map shown (drop l.name-index l.names))
    ≡ map shown_variable l.initial.chosen.items ++ flat_map (variable_of (map shown_variable l.environment)) (map shown l.names)
