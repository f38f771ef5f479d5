use Rattle.std.proofs.Common.{◌≡◌, ◌++◌, map, drop}
use Rattle.serde_json.specs.View.{view}
use Rattle.texts.specs.Variables.{pair_of}
use Rattle.plan_json.specs.Json.{variable_data}
use Rattle.plan_json.proofs.json.variables_value.Given as goal

abbrev pub invariant-loop-pair : goal.invariant-loop-pair
invariant-loop-pair l = map view l.list.items ++ map variable_data (map pair_of (drop l.pair-index l.variables)) ≡ map variable_data (map pair_of l.variables)
