use Rattle.std.proofs.Common.{◌≡◌, Some, map, fold, string_bytes, drop, option_copied}
use Rattle.texts.specs.Lists.{last_of}
use Rattle.command_groups.proofs.stage.last_word.Given as goal

-- the last word is the last one of those that are left, or else the last one so far
abbrev pub invariant-loop-word : goal.invariant-loop-word
invariant-loop-word l = fold (λ _ w. Some w) (option_copied l.last) (map string_bytes (drop l.word-index l.words)) ≡ last_of (map string_bytes l.words)
