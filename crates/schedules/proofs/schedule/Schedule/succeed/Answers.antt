use Rattle.std.proofs.Common.{◌≡◌, ◌<◌, ◌-◌, List, ℕ, None, length, map, sym, subst, ◌∙◌, vec_items}
use Rattle.std.proofs.lemmas.List.{with_items_is}
use Rattle.std.specs.Vec.{with_items}
use Rattle.schedules.specs.declared.command.CommandState.TheVariants.{Succeeded}
use Rattle.schedules.specs.Scheduled.{Scheduled, end_refusal, with_state}
use Rattle.schedules.specs.Kept.{IsCounted, scheduled}
use Rattle.schedules.proofs.KeptLemmas.{CanEnd, can_end, row_is, has_row, within_by, enough, succeeded}
use Rattle.schedules.proofs.schedule.Schedule.succeed.Goals as goal

pub release-requires-clause-within : goal.release-requires-clause-within
release-requires-clause-within c =
    let s : Scheduled = scheduled c.self.inside in
    let can : CanEnd s c.args.command = can_end s c.args.command (subst (λ t. end_refusal t c.args.command ≡ None) (sym c.self.view_is) c.requires) in
    let dependents : List (List ℕ) = map vec_items c.self.inside.dependents.items in
    let there : c.args.command < length dependents = has_row s dependents c.self.inside.waiting.items c.self.inside.tree.items c.self.inside.running c.self.inside.limit c.args.command c.self.invariant can.there in
    within_by s dependents c.self.inside.waiting.items c.self.inside.tree.items c.deref-3.result.now c.deref.result.now c.self.inside.running c.self.inside.limit c.args.command
    c.self.invariant can c.deref-3.ensures.value (row_is vec_items c.self.inside.dependents.items c.args.command c.index.result.now c.deref.result.now there c.index.ensures c.deref.ensures.value)

pub release-requires-clause-enough : goal.release-requires-clause-enough
release-requires-clause-enough c =
    let s : Scheduled = scheduled c.self.inside in
    let can : CanEnd s c.args.command = can_end s c.args.command (subst (λ t. end_refusal t c.args.command ≡ None) (sym c.self.view_is) c.requires) in
    let dependents : List (List ℕ) = map vec_items c.self.inside.dependents.items in
    let there : c.args.command < length dependents = has_row s dependents c.self.inside.waiting.items c.self.inside.tree.items c.self.inside.running c.self.inside.limit c.args.command c.self.invariant can.there in
    enough s dependents c.self.inside.waiting.items c.deref_mut.result.now c.self.inside.tree.items c.deref-3.result.now c.deref.result.now c.self.inside.running c.self.inside.limit c.args.command
    c.self.invariant can c.deref-3.ensures.value c.deref_mut.ensures.value (row_is vec_items c.self.inside.dependents.items c.args.command c.index.result.now c.deref.result.now there c.index.ensures c.deref.ensures.value)

pub invariant_of-self : goal.invariant_of-self
invariant_of-self c =
    let s : Scheduled = scheduled c.self.inside in
    let can : CanEnd s c.args.command = can_end s c.args.command (subst (λ t. end_refusal t c.args.command ≡ None) (sym c.self.view_is) c.requires) in
    let dependents : List (List ℕ) = map vec_items c.self.inside.dependents.items in
    let there : c.args.command < length dependents = has_row s dependents c.self.inside.waiting.items c.self.inside.tree.items c.self.inside.running c.self.inside.limit c.args.command c.self.invariant can.there in
    subst (λ w. IsCounted (with_state s c.args.command Succeeded) dependents w (with_items c.self.inside.tree c.release.new.tree).items (c.self.inside.running - 1) c.self.inside.limit)
    (sym (with_items_is c.self.inside.waiting c.release.new.waiting (c.release.auto.waiting ∙ c.deref_mut.ensures.len)))
    (subst (λ t. IsCounted (with_state s c.args.command Succeeded) dependents c.release.new.waiting t (c.self.inside.running - 1) c.self.inside.limit)
    (sym (with_items_is c.self.inside.tree c.release.new.tree (c.release.auto.tree ∙ c.deref_mut-2.ensures.len)))
    (succeeded s dependents c.self.inside.waiting.items c.deref_mut.result.now c.release.new.waiting c.self.inside.tree.items c.release.new.tree c.deref-3.result.now c.deref.result.now c.deref-2.result.now
    c.self.inside.running c.self.inside.limit c.args.command
    c.self.invariant can c.deref-3.ensures.value c.deref_mut.ensures.value c.deref-2.ensures.value
    (row_is vec_items c.self.inside.dependents.items c.args.command c.index.result.now c.deref.result.now there c.index.ensures c.deref.ensures.value)
    c.release.auto.waiting c.release.ensures.entered c.release.ensures.waiting))
