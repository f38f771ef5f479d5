use Rattle.schedules.proofs.LawLemmas.{told_in_order_is, nothing_else}
use Rattle.schedules.proofs.laws.told.Goals as goal

pub returns : goal.returns
returns c = record {
  in_order = told_in_order_is;
  nothing_else = nothing_else;
}
