use Rattle.std.proofs.Common.{add-one}
use Rattle.std.proofs.lemmas.List.{take_rest, take-map, drop-map}
use Rattle.compilers.proofs.items.Line.without.Goals as goal

pub returns : goal.returns
returns c = rw add-one (simp (take_rest, take-map, drop-map))
