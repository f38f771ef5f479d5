use Rattle.std.proofs.Common.{arith}
use Rattle.std.proofs.lemmas.Grind.{common_steps}
use Rattle.schedules.proofs.CountLemmas.{times-drop}
use Rattle.schedules.proofs.ready.release.Goals as goal

pub loop-dependent-preserved : goal.loop-dependent-preserved
loop-dependent-preserved c = record {
  entered = c.meet.ensures.entered;
  as_many = grind (arith, common_steps);
  left = λ n h. grind (arith, common_steps, times-drop, c.loop-dependent.invariant.left n h);
}
