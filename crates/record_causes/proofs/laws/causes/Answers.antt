use Rattle.record_causes.proofs.CauseLemmas.{names-differences, first-is-named, cause-is-true}
use Rattle.record_causes.proofs.laws.causes.Goals as goal

pub returns : goal.returns
returns c = record {
  exact = names-differences;
  first = first-is-named;
  differs = cause-is-true;
}
