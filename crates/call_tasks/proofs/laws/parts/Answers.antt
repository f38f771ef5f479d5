use Rattle.schedule_orders.proofs.WithheldLemmas.{gives-what-was-written, may-happen}
use Rattle.schedule_orders.specs.Withheld.{moments_of}
use Rattle.call_tasks.specs.PartLaws.{needs_of_plan, records_of_plan, waits_of_plan}
use Rattle.call_tasks.proofs.HeadLemmas.{heads-are-within}
use Rattle.call_tasks.proofs.PartLemmas.{closed_hold, parts-hold, parts-agree, histories-leave-tasks, tasks-stand-for-plans}
use Rattle.call_tasks.proofs.laws.parts.Goals as goal

pub returns : goal.returns
returns c = record {
  within = heads-are-within;
  hold = parts-hold;
  agree = parts-agree;
  histories = histories-leave-tasks;
  withheld = λ asks plan priorities slots setting steps acts effects contents are may wait stay. record {
    leaves = histories-leave-tasks asks plan priorities slots setting steps (moments_of acts) effects contents are
        (may-happen (needs_of_plan asks plan) (waits_of_plan asks plan) priorities slots setting steps acts may wait) stay;
    gives = λ before n i given.
        gives-what-was-written (records_of_plan asks plan) (needs_of_plan asks plan) (waits_of_plan asks plan) priorities slots setting steps acts may wait
        before n i effects contents (closed_hold (records_of_plan asks plan) (needs_of_plan asks plan) (parts-hold asks plan)) are stay given;
  };
  plans = tasks-stand-for-plans;
}
