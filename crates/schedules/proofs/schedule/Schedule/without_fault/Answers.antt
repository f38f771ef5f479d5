use Rattle.std.proofs.Common.{List, ℕ, [], length, map, replicate, vec_items, sym, ap, subst, ◌∙◌, arith}
use Rattle.std.proofs.lemmas.List.{length-map}
use Rattle.schedules.specs.declared.command.CommandState.TheVariants.{NotStarted}
use Rattle.schedules.specs.Entered.{AreEntered}
use Rattle.schedules.specs.Graphs.{all_noted}
use Rattle.schedules.proofs.GraphLemmas.{good, fresh_kept, filled}
use Rattle.schedules.proofs.schedule.Schedule.without_fault.Goals as goal

pub invariant_of-result : goal.invariant_of-result
invariant_of-result c =
    let needs : List (List ℕ) = map vec_items c.args.needs.items in
    fresh_kept needs (map vec_items c.in_ok-dependents.dependents.items) c.args.priorities.items c.in_ok-waiting.waiting.items c.in_ok-tree.tree.items c.args.slots c.len-count.result c.args.after_failure c.resize.new.self.items
    (good needs (length c.args.priorities.items) c.args.slots c.requires)
    (omega (arith, c.len-count.ensures, c.args.needs.ok.0, length-map c.args.needs.items vec_items))
    (c.in_ok-dependents.ensures ∙ ap (λ q. all_noted 0 (replicate (length q) []) (map vec_items q)) c.deref.ensures.value ∙ ap (λ k. all_noted 0 (replicate k []) needs) (sym (length-map c.args.needs.items vec_items)))
    (c.in_ok-waiting.ensures ∙ ap (λ q. map length (map vec_items q)) c.deref-2.ensures.value)
    (subst (λ p. AreEntered p c.in_ok-tree.tree.items (replicate (length p) NotStarted) c.in_ok-waiting.waiting.items (length p)) c.deref-3.ensures.value
    (subst (λ w. AreEntered c.deref-3.result.now c.in_ok-tree.tree.items (replicate (length c.deref-3.result.now) NotStarted) w (length c.deref-3.result.now)) c.deref-4.ensures.value c.in_ok-tree.ensures))
    (c.in_ok-resize.ensures.items ∙ filled c.len-count.result c.new-states.result.items _ c.new-states.ensures.items c.new-states.ensures.len)
