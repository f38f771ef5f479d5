use Rattle.host_lines.proofs.NvccEqualityLemmas.{compilers, commands}
use Rattle.host_lines.proofs.laws.nvcc_equality.Goals as goal

pub returns : goal.returns
returns c = record { compiler = compilers; command = commands }
