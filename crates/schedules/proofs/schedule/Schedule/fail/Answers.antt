use Rattle.std.proofs.Common.{◌≡◌, ◌-◌, List, ℕ, None, length, map, sym, subst, ◌∙◌, ap, vec_items, arith}
use Rattle.std.proofs.lemmas.List.{with_items_is}
use Rattle.schedules.specs.Scheduled.{Scheduled, end_refusal, with_state}
use Rattle.schedules.specs.Kept.{IsCounted, scheduled}
use Rattle.schedules.proofs.KeptLemmas.{CanEnd, can_end, failed}
use Rattle.schedules.proofs.StateLemmas.{limit-le}
use Rattle.schedules.proofs.schedule.Schedule.fail.Goals as goal

pub hold_back-requires-clause-within : goal.hold_back-requires-clause-within
hold_back-requires-clause-within c =
    let s : Scheduled = scheduled c.self.inside in
    omega (arith, limit-le s.after_failure s.states, c.self.invariant.limited, c.self.invariant.as_many_priorities, ap length c.deref.ensures.value)

pub invariant_of-self : goal.invariant_of-self
invariant_of-self c =
    let s : Scheduled = scheduled c.self.inside in
    let can : CanEnd s c.args.command = can_end s c.args.command (subst (λ t. end_refusal t c.args.command ≡ None) (sym c.self.view_is) c.requires.runs) in
    let dependents : List (List ℕ) = map vec_items c.self.inside.dependents.items in
    subst (λ t. IsCounted (with_state s c.args.command c.args.state) dependents c.self.inside.waiting.items t (c.self.inside.running - 1) c.lowered-limit.result)
    (sym (with_items_is c.self.inside.tree c.hold_back.new.tree (c.hold_back.auto.tree ∙ c.deref_mut.ensures.len)))
    (failed s dependents c.self.inside.waiting.items c.self.inside.tree.items c.deref_mut.result.now c.hold_back.new.tree c.deref.result.now c.self.inside.running c.self.inside.limit c.lowered-limit.result
    c.args.command c.args.state c.self.invariant can c.requires.bad c.deref.ensures.value c.deref_mut.ensures.value c.lowered-limit.ensures c.hold_back.auto.tree c.hold_back.ensures.played c.hold_back.ensures.entrants)
