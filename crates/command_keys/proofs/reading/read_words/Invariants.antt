use Rattle.std.proofs.Common.{◌≡◌, ◌++◌, map, drop, option_map}
use Rattle.command_keys.specs.Keys.{shown}
use Rattle.command_keys.specs.ReadWords.{read_from, read_words}
use Rattle.command_keys.proofs.reading.read_words.Given as goal

-- what is read, and what is left to read, are the words
abbrev pub invariant-loop-word : goal.invariant-loop-word
invariant-loop-word l =
    option_map (λ rest. l.read.items ++ rest) (read_from l.tool l.option (map shown (drop l.word-index l.words))) ≡ read_words l.tool (map shown l.words)
