use Rattle.std.proofs.Common.{◌≡◌, ◌+◌, ◌++◌, [], ◌∷◌, map, vec_items, drop, sym, ap, ◌∙◌, arith}
use Rattle.std.proofs.lemmas.Grind.{common_steps}
use Rattle.serde_json.specs.View.{view}
use Rattle.command_files.specs.Numbered.{numbered}
use Rattle.texts.proofs.PushedLemmas.{pushed-items, next-left}
use Rattle.plan_json.proofs.ValueLemmas.{pushed-data}
use Rattle.plan_json.specs.Json.{command_at}
use Rattle.plan_json.proofs.json.commands_value.Goals as goal

pub loop-id-preserved : goal.loop-id-preserved
loop-id-preserved c =
    let id = c.loop-id.id in
    let commands = c.args.commands.now in
    let described = command_at (record { origins = c.args.origins.now; needs = map vec_items c.args.needs.now }) in
    let item = c.index-commands-id.result in
    let is : view c.in_ok-value.value ≡ described id item = grind (arith, common_steps) in
    let before = map view c.loop-id.list.items in
    let rest = numbered described (id + 1) (drop (id + 1) commands) in
    pushed-items before (described id item ∷ []) (map view c.push.new.list.items) rest
    (pushed-data view c.loop-id.list.items c.push.new.list.items _ _ is c.in_ok-push.ensures.ok)
    ∙ ap (λ cs. before ++ numbered described id cs) (sym (next-left commands id item c.loop-id-test.true c.index-commands-id.is))
    ∙ c.loop-id.invariant
