use Rattle.std.proofs.Common.{◌≡◌, ◌++◌, map, drop, string_bytes}
use Rattle.early_starts.specs.Splits.{moved_word}
use Rattle.early_starts.proofs.split.moved_words.Given as goal

-- the words so far, and those that are left, are all
abbrev pub invariant-loop-word : goal.invariant-loop-word
invariant-loop-word l = l.moved ++ map (moved_word l.to) (map string_bytes (drop l.word-index l.words)) ≡ map (moved_word l.to) (map string_bytes l.words)
