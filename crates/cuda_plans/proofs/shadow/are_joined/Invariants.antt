use Rattle.std.proofs.Common.{◌≡◌, map, drop, bytes_eq}
use Rattle.std.specs.Cmp.Lexicographic.{pointwise}
use Rattle.texts.specs.Path.{joined}
use Rattle.canonical_names.specs.Shown.{name_shown}
use Rattle.cuda_plans.proofs.shadow.are_joined.Given as goal

abbrev pub invariant-loop-index : goal.invariant-loop-index
invariant-loop-index l = pointwise bytes_eq (map name_shown (drop l.index l.second)) (map (joined l.folder) (map name_shown (drop l.index l.first))) ≡ pointwise bytes_eq (map name_shown l.second) (map (joined l.folder) (map name_shown l.first))
