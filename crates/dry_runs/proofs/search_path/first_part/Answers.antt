use Rattle.std.proofs.Common.{arith}
use Rattle.texts.proofs.CutLemmas.{parts-cut_once}
use Rattle.dry_runs.proofs.search_path.first_part.Goals as goal

pub returns-clause-parts : goal.returns-clause-parts
returns-clause-parts c = parts-cut_once 58 c.args.path.now c.split_once.result (omega arith) c.split_once.ensures.cases
