use Rattle.std.proofs.Common.{◌≡◌, ◌++◌, map, drop}
use Rattle.command_keys.specs.Actions.{paths_of}
use Rattle.command_keys.specs.Keys.{shown, shown_variable}
use Rattle.command_keys.proofs.actions.paths_of.Given as goal

abbrev pub invariant-loop-input : goal.invariant-loop-input
invariant-loop-input l = map shown l.paths.items ++ paths_of (map shown_variable (drop l.input-index l.inputs)) ≡ paths_of (map shown_variable l.inputs)
