use Rattle.std.proofs.Common.{inl, inr, sym, ◌∙◌}
use Rattle.schedules.specs.declared.command.CommandState.TheVariants as kinds
use Rattle.schedules.proofs.ToldLemmas.{told_at}
use Rattle.schedules.proofs.telling.told.Goals as goal

pub loop-next-preserved : goal.loop-next-preserved
loop-next-preserved c = sym (told_at c.args.states.now c.loop-next.next c.args.end kinds.Succeeded c.loop-next-test.true c.if-next-states.true c.in-Succeeded.is) ∙ c.loop-next.invariant

pub returns-in-Failed : goal.returns-in-Failed
returns-in-Failed c = sym (told_at c.args.states.now c.loop-next.next c.args.end kinds.Failed c.loop-next-test.true c.if-next-states.true c.in-Failed.is) ∙ c.loop-next.invariant

pub returns-in-NotStarted : goal.returns-in-NotStarted
returns-in-NotStarted c =
    elim c.in-NotStarted.is [
      | inl e ↦ sym (told_at c.args.states.now c.loop-next.next c.args.end kinds.NotStarted c.loop-next-test.true c.if-next-states.true e) ∙ c.loop-next.invariant
      | inr others ↦
          elim others [
            | inl e ↦ sym (told_at c.args.states.now c.loop-next.next c.args.end kinds.Running c.loop-next-test.true c.if-next-states.true e) ∙ c.loop-next.invariant
            | inr e ↦ sym (told_at c.args.states.now c.loop-next.next c.args.end kinds.Cancelled c.loop-next-test.true c.if-next-states.true e) ∙ c.loop-next.invariant
          ]
    ]
