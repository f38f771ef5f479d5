use Rattle.std.proofs.Common.{◌≡◌, ◌<◌, ◌==◌, length, get_or, map, sym, ap, subst, ◌∙◌, vec_items, arith}
use Rattle.std.proofs.lemmas.List.{get_or_read}
use Rattle.schedules.specs.Scheduled.{Scheduled, are_met}
use Rattle.schedules.specs.Kept.{scheduled}
use Rattle.schedules.proofs.KeptLemmas.{met_is}
use Rattle.schedules.proofs.schedule.Schedule.is_met.Goals as goal

pub returns : goal.returns
returns c =
    let s : Scheduled = scheduled c.self.inside in
    let there : c.args.command < length s.states = subst (λ t. c.args.command < length t.states) (sym c.self.view_is) c.requires in
    let read : c.index.result.now ≡ get_or c.self.inside.waiting.items c.args.command 0 = get_or_read c.self.inside.waiting.items c.args.command c.index.result.now (omega (arith, there, c.self.invariant.as_many_waiting)) c.index.ensures 0 in
    ap (λ w. w == 0) read
    ∙ met_is s (map vec_items c.self.inside.dependents.items) c.self.inside.waiting.items c.self.inside.tree.items c.self.inside.running c.self.inside.limit c.args.command c.self.invariant there
    ∙ ap (λ t. are_met t.needs t.states c.args.command) c.self.view_is
