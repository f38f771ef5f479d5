use Rattle.std.proofs.Common.{◌≡◌, ◌++◌, map, drop, flat_map}
use Rattle.command_keys.specs.Actions.{output_end}
use Rattle.command_keys.specs.Keys.{key_of_text, shown}
use Rattle.command_keys.proofs.actions.push_outputs.Given as goal

abbrev pub invariant-loop-output : goal.invariant-loop-output
invariant-loop-output l =
    l.key.items ++ flat_map (key_of_text (map shown l.roots)) (map (λ output. (output, output_end)) (map shown (drop l.output-index l.outputs)))
    ≡ l.initial.key.items ++ flat_map (key_of_text (map shown l.roots)) (map (λ output. (output, output_end)) (map shown l.outputs))
