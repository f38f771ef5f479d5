use Rattle.std.proofs.Common.{arith}
use Rattle.std.specs.Str.Lines.{lines}
use Rattle.std.proofs.lemmas.List.{take_rest}
use Rattle.std.proofs.lemmas.Grind.{common_steps}
use Rattle.dry_runs.proofs.ExpansionLemmas.{lines-at_newline, lines-last, newline-found}
use Rattle.dry_runs.proofs.lines.first_line.Goals as goal

pub returns-in-None-clause-lines : goal.returns-in-None-clause-lines
returns-in-None-clause-lines c = grind (arith, common_steps, newline-found, lines-last)

pub returns-in-Some-clause-lines : goal.returns-in-Some-clause-lines
returns-in-Some-clause-lines c = grind (arith, common_steps, newline-found, lines-at_newline, lines, take_rest)
