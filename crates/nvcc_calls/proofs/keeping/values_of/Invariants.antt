use Rattle.std.proofs.Common.{◌≡◌, ◌++◌, map, drop}
use Rattle.texts.specs.Variables.{pair_of}
use Rattle.nvcc_calls.specs.Keeping.{values_of}
use Rattle.nvcc_calls.proofs.keeping.values_of.Given as goal

-- the values so far and those of the options that are left are all values
abbrev pub invariant-loop-option : goal.invariant-loop-option
invariant-loop-option l = l.values ++ values_of l.name (map pair_of (drop l.option-index l.options)) ≡ values_of l.name (map pair_of l.options)
