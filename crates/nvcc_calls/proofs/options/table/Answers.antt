use Rattle.std.proofs.Common.{refl}
use Rattle.nvcc_calls.proofs.options.table.Goals as goal

-- the table computes to the list of the options
pub returns : goal.returns
returns c = refl
