use Rattle.dry_run_pairs.proofs.AgreementLemmas as own
use Rattle.dry_run_pairs.proofs.laws.agreement.Goals as goal

pub returns : goal.returns
returns c = own.agreement-orders
