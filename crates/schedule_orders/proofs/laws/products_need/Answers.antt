use Rattle.std.proofs.Common.{[], ◌∷◌, true, refl}
use Rattle.std.proofs.lemmas.Bool.{false≢true}
use Rattle.schedules.specs.declared.command.AfterFailure.TheVariants.{GoOn}
use Rattle.schedule_orders.specs.Histories.{Runs}
use Rattle.schedule_orders.specs.Withheld.{Does, Finds}
use Rattle.schedule_orders.proofs.NeededLemmas.{alone, staying-needed, success-needed, happening-needed, commands-needed, order-needed, acting-needed}
use Rattle.schedule_orders.proofs.laws.products_need.Goals as goal

pub returns : goal.returns
returns c = record {
  staying = staying-needed;
  success = success-needed;
  happening = happening-needed;
  commands = commands-needed;
  order = order-needed;
  acting = acting-needed;
  waiting = λ law. false≢true (law alone (λ n. true) (0 ∷ []) 1 GoOn (0 ∷ []) (Finds 0 ∷ Does (Runs 0) ∷ []) refl);
}
