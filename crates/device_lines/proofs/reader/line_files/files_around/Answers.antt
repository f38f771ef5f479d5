use Rattle.std.proofs.Common.{arith}
use Rattle.std.proofs.lemmas.Grind.{common_steps}
use Rattle.device_lines.proofs.ReadingLemmas.{files-named}
use Rattle.device_lines.proofs.reader.line_files.files_around.Goals as goal

pub returns : goal.returns
returns g c = grind (arith, common_steps, files-named)
