use Rattle.std.proofs.Common.{◌≡◌, ◌++◌, map, drop, flat_map}
use Rattle.command_keys.specs.Actions.{texts_of_input}
use Rattle.command_keys.specs.Keys.{key_of_text, shown_variable, shown}
use Rattle.command_keys.proofs.actions.push_inputs.Given as goal

abbrev pub invariant-loop-input : goal.invariant-loop-input
invariant-loop-input l =
    l.key.items ++ flat_map (key_of_text (map shown l.roots)) (flat_map texts_of_input (map shown_variable (drop l.input-index l.inputs)))
    ≡ l.initial.key.items ++ flat_map (key_of_text (map shown l.roots)) (flat_map texts_of_input (map shown_variable l.inputs))
