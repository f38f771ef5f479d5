use Rattle.std.proofs.Common.{◌≡◌, ◌++◌, drop}
use Rattle.command_keys.specs.CountedWords.{texts_seen}
use Rattle.command_keys.proofs.counting.texts_seen.Given as goal

abbrev pub invariant-loop-word : goal.invariant-loop-word
invariant-loop-word l = l.texts.items ++ texts_seen l.all (drop l.word-index l.words) ≡ texts_seen l.all l.words
