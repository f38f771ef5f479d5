use Rattle.nvcc_calls.proofs.LawLemmas.{split-lines, normal-forms}
use Rattle.nvcc_calls.proofs.laws.split_lines.Goals as goal

pub returns : goal.returns
returns c = record { reading = split-lines; normal = normal-forms }
