use Rattle.std.proofs.Common.{◌≡◌, ◌+◌, ◌++◌, string_bytes, vec_items, map, drop, sym, ap, ◌∙◌}
use Rattle.command_files.specs.Order.{needs_at}
use Rattle.plan_texts.specs.Graph.{edge, stamps_at, edges_from}
use Rattle.texts.proofs.PushedLemmas.{pushed, next-left}
use Rattle.plan_texts.proofs.ninja.push_edges.Goals as goal

pub loop-number-preserved : goal.loop-number-preserved
loop-number-preserved c =
    let commands = c.args.commands.now in
    let item = c.index-commands-number.result in
    let tmp = c.args.tmp.now in
    let places = c.args.places.now in
    let needs = map vec_items c.args.needs.now in
    let n = c.loop-number.number in
    let before = string_bytes c.loop-number.text in
    let after = string_bytes c.push_edge.new.text in
    let stamps = stamps_at places (needs_at needs n) in
    let same : c.as_str.result.now ≡ stamps =
    c.as_str.ensures.value ∙ c.in_ok-stamps.ensures ∙ ap (stamps_at places) c.needs_at-numbers.ensures in
    let pushed_edge : after ≡ before ++ edge tmp stamps item = c.in_ok-push_edge.ensures ∙ ap (λ s. before ++ edge tmp s item) same in
    pushed before (edge tmp stamps item) after (edges_from tmp places needs (n + 1) (drop (n + 1) commands)) pushed_edge
    ∙ ap (λ cs. before ++ edges_from tmp places needs n cs) (sym (next-left commands n item c.loop-number-test.true c.index-commands-number.is))
    ∙ c.loop-number.invariant
