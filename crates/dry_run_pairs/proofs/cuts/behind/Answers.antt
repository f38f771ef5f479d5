use Rattle.dry_run_pairs.proofs.CutLemmas.{rest_after-slice}
use Rattle.dry_run_pairs.proofs.cuts.behind.Goals as goal

pub returns-clause-rest : goal.returns-clause-rest
returns-clause-rest c = rest_after-slice c.args.mark.now c.args.text.now c.strip_prefix.result c.strip_prefix.ensures.cases
