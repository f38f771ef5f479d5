use Rattle.std.proofs.Common.{◌≡◌, ◌++◌, ◌+◌, List, ℕ, length, drop, map, vec_items, sym, ap, ◌∙◌, arith}
use Rattle.std.proofs.lemmas.List.{length-map}
use Rattle.schedules.specs.Graphs.{joined_from}
use Rattle.schedules.proofs.GraphLemmas.{joined_step, plans_rest}
use Rattle.schedules.proofs.graph.joined_needs.Goals as goal

pub loop-plan-preserved : goal.loop-plan-preserved
loop-plan-preserved c =
    let joined : List (List ℕ) = map vec_items c.loop-plan.joined.items in
    let offset : c.len-offset.result ≡ length joined = omega (arith, c.len-offset.ensures, c.loop-plan.joined.ok.0, length-map c.loop-plan.joined.items vec_items) in
    joined_step joined (map vec_items c.push_moved.new.joined.items) (map vec_items c.plan-item.result.now) (map (λ p. map vec_items p.now) (drop (c.loop-plan.plan-index + 1) c.args.plans.now)) c.len-offset.result offset c.in_ok-push_moved.ensures
    ∙ ap (λ r. joined ++ joined_from (length joined) r) (sym (plans_rest (λ p. map vec_items p.now) c.args.plans.now c.loop-plan.plan-index c.plan-item.result c.loop-plan-test.true c.plan-item.is))
    ∙ c.loop-plan.invariant
