use Rattle.std.proofs.Common.{◌≡◌, ◌++◌, map, drop, flat_map}
use Rattle.command_keys.specs.Keys.{key_of_text, shown, word_end}
use Rattle.command_keys.proofs.keys.push_words.Given as goal

abbrev pub invariant-loop-word : goal.invariant-loop-word
invariant-loop-word l =
    l.key.items ++ flat_map (key_of_text (map shown l.roots)) (map (λ word. (word, word_end)) (map shown (drop l.word-index l.words)))
    ≡ l.initial.key.items ++ flat_map (key_of_text (map shown l.roots)) (map (λ word. (word, word_end)) (map shown l.words))
