use Rattle.std.proofs.Common.{◌≡◌, map, drop}
use Rattle.texts.specs.Variables.{pair_of}
use Rattle.compilers.specs.Table.{entry_of}
use Rattle.nvcc_calls.specs.Keeping.{same_options}
use Rattle.nvcc_calls.proofs.keeping.keeps_table.Given as goal

-- the rows that are left have the same values exactly if all rows do
abbrev pub invariant-loop-row : goal.invariant-loop-row
invariant-loop-row l =
    same_options (map pair_of l.options) (map pair_of l.others) (map entry_of (drop l.row-index l.row-items))
    ≡ same_options (map pair_of l.options) (map pair_of l.others) (map entry_of l.table.rows.now)
