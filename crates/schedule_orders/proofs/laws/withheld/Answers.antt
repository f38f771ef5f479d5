use Rattle.schedule_orders.proofs.WithheldLemmas.{may-happen, gives-what-was-written}
use Rattle.schedule_orders.proofs.laws.withheld.Goals as goal

pub returns : goal.returns
returns c = record {
  happens = λ records needs waits priorities slots setting parts acts may wait. may-happen needs waits priorities slots setting parts acts may wait;
  gives = gives-what-was-written;
}
