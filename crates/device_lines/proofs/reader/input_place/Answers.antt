use Rattle.std.proofs.Common.{arith}
use Rattle.std.proofs.lemmas.Grind.{common_steps}
use Rattle.device_lines.proofs.ReadingLemmas.{input_place-strings}
use Rattle.device_lines.proofs.reader.input_place.Goals as goal

pub returns-in-None-clause-place : goal.returns-in-None-clause-place
returns-in-None-clause-place c = grind (arith, common_steps, input_place-strings)

pub returns-in_default-clause-place : goal.returns-in_default-clause-place
returns-in_default-clause-place c = grind (arith, common_steps, input_place-strings)

pub returns-in_default-2-clause-place : goal.returns-in_default-2-clause-place
returns-in_default-2-clause-place c = grind (arith, common_steps, input_place-strings)
