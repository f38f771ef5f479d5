use Rattle.std.proofs.Common.{◌≡◌, ◌++◌, map, drop}
use Rattle.serde_json.specs.View.{view}
use Rattle.plan_json.specs.Json.{dropped_data}
use Rattle.plan_json.proofs.json.all_dropped_value.Given as goal

abbrev pub invariant-loop-command : goal.invariant-loop-command
invariant-loop-command l = map view l.list.items ++ map dropped_data (drop l.command-index l.dropped) ≡ map dropped_data l.dropped
