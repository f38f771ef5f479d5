use Rattle.std.specs.Prelude.{length}
use Rattle.schedule_orders.specs.Histories.{ran_in}
use Rattle.schedule_orders.proofs.ListLemmas.{the_rest}
use Rattle.schedule_orders.proofs.ProductLemmas.{runs, begins, theirs, leaves, same}
use Rattle.schedule_orders.proofs.laws.products.Goals as goal

pub returns : goal.returns
returns c = record {
  ordered = λ records needs priorities slots setting parts moments holds are happened. runs records needs priorities slots setting parts moments happened;
  begins = λ records needs priorities slots setting parts moments holds are happened. record {
    rest = the_rest (ran_in moments) (length parts);
    order = begins records needs priorities slots setting parts moments happened;
  };
  theirs = λ records needs priorities slots setting parts moments holds are happened effects contents within. theirs records needs priorities slots setting parts moments happened holds are effects contents within;
  all = λ records needs priorities slots setting parts moments holds are happened effects contents within all. record {
    leaves = leaves records needs priorities slots setting parts moments happened holds are effects contents within all;
    same = same records needs priorities slots setting parts moments happened holds are effects contents within all;
  };
}
