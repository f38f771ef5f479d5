use Rattle.std.proofs.Common.{◌≡◌, map, string_bytes, drop}
use Rattle.command_files.specs.Files.{is_among}
use Rattle.command_files.proofs.steps.has_word.Given as goal

-- the word is among all if it is among those that are left
abbrev pub invariant-loop-other : goal.invariant-loop-other
invariant-loop-other l = is_among (map string_bytes (drop l.other-index l.words)) l.word ≡ is_among (map string_bytes l.words) l.word
