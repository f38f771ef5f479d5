use Rattle.std.proofs.Common.{◌≡◌, map, drop, bytes_eq}
use Rattle.std.specs.Map.{lookup}
use Rattle.texts.specs.Variables.{pair_of}
use Rattle.texts.proofs.variables.first_value.Given as goal

-- the first pair of the name is among those that are left
abbrev pub invariant-loop-pair : goal.invariant-loop-pair
invariant-loop-pair l = lookup (bytes_eq l.name) (map pair_of (drop l.pair-index l.pairs)) ≡ lookup (bytes_eq l.name) (map pair_of l.pairs)
