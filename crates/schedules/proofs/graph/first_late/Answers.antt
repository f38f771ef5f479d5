use Rattle.std.proofs.Common.{vec_items, sym, ◌∙◌}
use Rattle.schedules.proofs.GraphLemmas.{late_no, late_yes}
use Rattle.schedules.proofs.graph.first_late.Goals as goal

pub returns-then-not-are_below : goal.returns-then-not-are_below
returns-then-not-are_below c =
    sym (late_no vec_items c.args.needs.now c.loop-number.number c.index-needs-number.result c.as_slice.result.now c.loop-number-test.true c.index-needs-number.is c.as_slice.ensures.value (sym c.are_below.ensures ∙ c.if-not-are_below.true)) ∙ c.loop-number.invariant

pub loop-number-preserved : goal.loop-number-preserved
loop-number-preserved c =
    sym (late_yes vec_items c.args.needs.now c.loop-number.number c.index-needs-number.result c.as_slice.result.now c.loop-number-test.true c.index-needs-number.is c.as_slice.ensures.value (sym c.are_below.ensures ∙ c.if-not-are_below.false)) ∙ c.loop-number.invariant
