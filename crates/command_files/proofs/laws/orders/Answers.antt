use Rattle.command_files.proofs.NeedLemmas.{needs_hold, own_order_is_one}
use Rattle.command_files.proofs.OrderLemmas.{orders_agree, runs_agree}
use Rattle.command_files.proofs.laws.orders.Goals as goal

pub returns : goal.returns
returns c = record {
  agree = orders_agree;
  runs = runs_agree;
  needs_hold = needs_hold;
  own_order = own_order_is_one;
}
