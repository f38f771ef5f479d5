use Rattle.std.proofs.Common.{◌∙◌}
use Rattle.compilers.proofs.RecordLemmas.{pointwise-lines}
use Rattle.compilers.proofs.dry_run.CommandsPartialEq.eq.Goals as goal

pub returns : goal.returns
returns c = rw (← c.as_slice.ensures, ← c.as_slice-2.ensures) (c.eq.ensures ∙ pointwise-lines c.as_slice.result.now c.as_slice-2.result.now)
