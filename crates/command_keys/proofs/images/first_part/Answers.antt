use Rattle.std.proofs.Common.{arith}
use Rattle.std.proofs.lemmas.List.{take_rest}
use Rattle.std.proofs.lemmas.Grind.{common_steps}
use Rattle.command_keys.proofs.ImageLemmas.{parts-at, parts-last}
use Rattle.command_keys.proofs.images.first_part.Goals as goal

pub returns-in-None-clause-parts : goal.returns-in-None-clause-parts
returns-in-None-clause-parts c = grind (arith, common_steps, parts-last)

pub returns-in-Some-clause-parts : goal.returns-in-Some-clause-parts
returns-in-Some-clause-parts c = grind (arith, common_steps, parts-at, take_rest)
