use Rattle.std.proofs.Common.{◌∙◌}
use Rattle.host_lines.proofs.NumberLemmas.{number_parsed}
use Rattle.nvcc_calls.proofs.outline.number_in.Goals as goal

pub returns : goal.returns
returns c = c.ok.ensures.value ∙ number_parsed c.args.text.now c.parse.result c.parse.ensures.value.0
