use Rattle.std.proofs.Common.{◌≡◌, take}
use Rattle.canonical_names.proofs.further_suffixes.words_of.Given as goal

abbrev pub invariant-loop-index : goal.invariant-loop-index
invariant-loop-index l = l.words ≡ take l.index l.suffixes
