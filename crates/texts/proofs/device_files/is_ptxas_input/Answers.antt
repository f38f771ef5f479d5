use Rattle.std.proofs.Common.{codes}
use Rattle.std.proofs.lemmas.Str.Pattern.{ends_text}
use Rattle.texts.proofs.device_files.is_ptxas_input.Goals as goal

pub returns : goal.returns
returns c = ends_text c.ends_with.result (codes ".ptx") c.args.word.now c.ends_with.ensures.cases
