use Rattle.std.proofs.Common.{◌≡◌, map, drop}
use Rattle.command_files.specs.Files.{is_among}
use Rattle.early_starts.specs.LateWords.{shown}
use Rattle.early_starts.proofs.words.is_among.Given as goal

abbrev pub invariant-loop-other : goal.invariant-loop-other
invariant-loop-other l = is_among (map shown (drop l.other-index l.words)) l.word ≡ is_among (map shown l.words) l.word
