use Rattle.std.proofs.Common.{◌≡◌, ◌++◌, map, drop, vec_items}
use Rattle.serde_json.specs.View.{view}
use Rattle.plan_json.specs.Json.{command_at}
use Rattle.command_files.specs.Numbered.{numbered}
use Rattle.plan_json.proofs.json.commands_value.Given as goal

abbrev pub invariant-loop-id : goal.invariant-loop-id
invariant-loop-id l =
    let described = command_at (record { origins = l.origins; needs = map vec_items l.needs }) in
    map view l.list.items ++ numbered described l.id (drop l.id l.commands) ≡ numbered described 0 l.commands
