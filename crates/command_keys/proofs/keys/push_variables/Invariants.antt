use Rattle.std.proofs.Common.{◌≡◌, ◌++◌, map, drop, flat_map}
use Rattle.command_keys.specs.Keys.{key_of_text, shown_variable, shown, texts_of_variable}
use Rattle.command_keys.proofs.keys.push_variables.Given as goal

abbrev pub invariant-loop-variable : goal.invariant-loop-variable
invariant-loop-variable l =
    l.key.items ++ flat_map (key_of_text (map shown l.roots)) (flat_map texts_of_variable (map shown_variable (drop l.variable-index l.variables)))
    ≡ l.initial.key.items ++ flat_map (key_of_text (map shown l.roots)) (flat_map texts_of_variable (map shown_variable l.variables))
