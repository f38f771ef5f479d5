use Rattle.std.proofs.Common.{◌≡◌, ◌+◌, map, drop, option_map}
use Rattle.texts.specs.Variables.{pair_of}
use Rattle.command_groups.specs.Views.{variable_place}
use Rattle.command_groups.proofs.environment.place_of.Given as goal

-- the place is that of the first such variable of those that are left, behind those that were met
abbrev pub invariant-loop-pair : goal.invariant-loop-pair
invariant-loop-pair l = record {
  whole : option_map (λ n. l.place + n) (variable_place l.name (map pair_of (drop l.pair-index l.environment))) ≡ variable_place l.name (map pair_of l.environment);
  place : l.place ≡ l.pair-index;
}
