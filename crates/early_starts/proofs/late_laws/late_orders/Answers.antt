use Rattle.early_starts.proofs.LateNeedLemmas.{late-needs-hold}
use Rattle.early_starts.proofs.LateOrderLemmas.{late-orders-agree, late-runs-agree, late-products}
use Rattle.early_starts.proofs.late_laws.late_orders.Goals as goal

pub returns : goal.returns
returns c = record {
  hold = late-needs-hold;
  agree = late-orders-agree;
  runs = late-runs-agree;
  products = late-products;
}
