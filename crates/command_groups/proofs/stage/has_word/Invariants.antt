use Rattle.std.proofs.Common.{◌≡◌, map, string_bytes, drop}
use Rattle.command_groups.specs.Stage.{has_word}
use Rattle.command_groups.proofs.stage.has_word.Given as goal

-- the word stands among all words where it stands among those that are left
abbrev pub invariant-loop-other : goal.invariant-loop-other
invariant-loop-other l = has_word l.word (map string_bytes (drop l.other-index l.words)) ≡ has_word l.word (map string_bytes l.words)
