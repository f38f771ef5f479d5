use Rattle.std.proofs.Common.{◌≡◌, map, drop}
use Rattle.early_starts.specs.LateWords.{goes_on, shown}
use Rattle.early_starts.proofs.words.goes_on.Given as goal

abbrev pub invariant-loop-beginning : goal.invariant-loop-beginning
invariant-loop-beginning l = goes_on (map shown (drop l.beginning-index l.beginnings)) l.word ≡ goes_on (map shown l.beginnings) l.word
