use Rattle.std.proofs.Common.{◌≡◌, ◌+◌, List, ℕ, None, map, sym, subst, ◌∙◌, vec_items}
use Rattle.std.proofs.lemmas.List.{with_items_is}
use Rattle.schedules.specs.declared.command.CommandState.TheVariants.{Running}
use Rattle.schedules.specs.Scheduled.{Scheduled, start_refusal, with_state}
use Rattle.schedules.specs.Kept.{IsCounted, scheduled}
use Rattle.schedules.proofs.KeptLemmas.{CanStart, can_start, begun}
use Rattle.schedules.proofs.schedule.Schedule.begin.Goals as goal

pub invariant_of-self : goal.invariant_of-self
invariant_of-self c =
    let s : Scheduled = scheduled c.self.inside in
    let can : CanStart s c.args.command = can_start s c.args.command (subst (λ t. start_refusal t c.args.command ≡ None) (sym c.self.view_is) c.requires) in
    let dependents : List (List ℕ) = map vec_items c.self.inside.dependents.items in
    subst (λ t. IsCounted (with_state s c.args.command Running) dependents c.self.inside.waiting.items t (c.self.inside.running + 1) c.self.inside.limit)
    (sym (with_items_is c.self.inside.tree c.enter.new.tree (c.enter.auto.tree ∙ c.deref_mut.ensures.len)))
    (begun s dependents c.self.inside.waiting.items c.self.inside.tree.items c.deref_mut.result.now c.enter.new.tree c.deref.result.now c.self.inside.running c.self.inside.limit c.args.command c.len-nobody.result
    c.self.invariant can c.deref.ensures.value c.deref_mut.ensures.value (c.len-nobody.ensures ∙ c.self.inside.priorities.ok.0) c.enter.auto.tree c.enter.ensures.played c.enter.ensures.entrants)
