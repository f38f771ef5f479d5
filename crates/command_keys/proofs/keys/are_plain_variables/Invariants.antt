use Rattle.std.proofs.Common.{◌≡◌, map, drop}
use Rattle.std.specs.List.{list_all}
use Rattle.command_keys.specs.Keys.{is_plain_variable, shown_variable}
use Rattle.command_keys.proofs.keys.are_plain_variables.Given as goal

abbrev pub invariant-loop-variable : goal.invariant-loop-variable
invariant-loop-variable l = list_all is_plain_variable (map shown_variable (drop l.variable-index l.variables)) ≡ list_all is_plain_variable (map shown_variable l.variables)
