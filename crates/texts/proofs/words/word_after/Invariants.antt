use Rattle.std.proofs.Common.{◌≡◌, map, string_bytes, drop, if◌then◌else◌}
use Rattle.texts.specs.Lists.{first_word, word_after}
use Rattle.texts.proofs.words.word_after.Given as goal

-- the word is the first that is left, or stands after the option among those that are left
abbrev pub invariant-loop-word : goal.invariant-loop-word
invariant-loop-word l =
    (if l.follows then first_word (map string_bytes (drop l.word-index l.words)) else word_after l.option (map string_bytes (drop l.word-index l.words))) ≡ word_after l.option (map string_bytes l.words)
