use Rattle.std.proofs.Common.{◌≡◌, ◌<◌, None, true, false, length, get_or, map, sym, ap, subst, ◌∙◌, vec_items, arith}
use Rattle.std.proofs.lemmas.Bool.{lt-ltb, le-ltb}
use Rattle.std.proofs.lemmas.List.{get_or_read}
use Rattle.schedules.specs.Scheduled.{Scheduled, best, ready, running, next, start_refusal}
use Rattle.schedules.specs.Kept.{scheduled}
use Rattle.schedules.proofs.KeptLemmas.{winner_is, next_is, may_start_now}
use Rattle.schedules.proofs.schedule.Schedule.next.Goals as goal

pub returns-then-winner-len : goal.returns-then-winner-len
returns-then-winner-len c =
    let s : Scheduled = scheduled c.self.inside in
    let size : 1 < length c.self.inside.tree.items = omega (arith, c.if-len-gt1.true, c.len.ensures, c.self.inside.tree.ok.0) in
    let read : c.index-winner.result.now ≡ get_or c.self.inside.tree.items 1 0 = get_or_read c.self.inside.tree.items 1 c.index-winner.result.now size c.index-winner.ensures 0 in
    let is : c.index-winner.result.now ≡ best s.priorities (ready s) = read ∙ winner_is s (map vec_items c.self.inside.dependents.items) c.self.inside.waiting.items c.self.inside.tree.items c.self.inside.running c.self.inside.limit c.self.invariant size in
    let room : running s.states < s.slots = omega (arith, c.if-self.true, c.self.invariant.running_is) in
    let there : c.index-winner.result.now < length s.priorities = omega (arith, c.if-winner-len.true, c.len-then-len-gt1.ensures, c.self.inside.priorities.ok.0) in
    record {
      answer = sym (next_is s c.index-winner.result.now room is true (lt-ltb c.index-winner.result.now (length s.priorities) there)) ∙ ap next c.self.view_is;
      may_start = subst (λ t. start_refusal t c.index-winner.result.now ≡ None) c.self.view_is (may_start_now s c.index-winner.result.now c.self.invariant.as_many_priorities room is there);
    }

pub returns-else-winner-len : goal.returns-else-winner-len
returns-else-winner-len c =
    let s : Scheduled = scheduled c.self.inside in
    let size : 1 < length c.self.inside.tree.items = omega (arith, c.if-len-gt1.true, c.len.ensures, c.self.inside.tree.ok.0) in
    let read : c.index-winner.result.now ≡ get_or c.self.inside.tree.items 1 0 = get_or_read c.self.inside.tree.items 1 c.index-winner.result.now size c.index-winner.ensures 0 in
    let is : c.index-winner.result.now ≡ best s.priorities (ready s) = read ∙ winner_is s (map vec_items c.self.inside.dependents.items) c.self.inside.waiting.items c.self.inside.tree.items c.self.inside.running c.self.inside.limit c.self.invariant size in
    let room : running s.states < s.slots = omega (arith, c.if-self.true, c.self.invariant.running_is) in
    record {
      answer = sym (next_is s c.index-winner.result.now room is false (le-ltb c.index-winner.result.now (length s.priorities) (omega (arith, c.if-winner-len.false, c.len-then-len-gt1.ensures, c.self.inside.priorities.ok.0)))) ∙ ap next c.self.view_is;
      may_start = tt;
    }
