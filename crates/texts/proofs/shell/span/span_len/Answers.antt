-- Sixteen bytes at a time, and then byte by byte.
use Rattle.std.proofs.Common.{length-take-le, length-drop, arith}
use Rattle.std.proofs.lemmas.List.Sums.{prefix_len-le-length}
use Rattle.texts.proofs.SpanRunLemmas.{run_ends, run_goes_on}
use Rattle.texts.proofs.shell.span.span_len.Goals as goal

pub returns-then-run-lt-LANES : goal.returns-then-run-lt-LANES
returns-then-run-lt-LANES c = grind (arith, run_ends)

pub loop-at-preserved : goal.loop-at-preserved
loop-at-preserved c = grind (arith, run_goes_on)

pub overflow_add-result-2 : goal.overflow_add-result-2
overflow_add-result-2 c = grind (arith, length-take-le, length-drop, prefix_len-le-length)
