use Rattle.std.proofs.Common.{◌≡◌, map, drop}
use Rattle.source_layouts.specs.LineNumbers.{shown, with_words, no_words}
use Rattle.source_layouts.specs.WordSets.{has}
use Rattle.source_layouts.proofs.line_numbers.Words.new.Given as goal

abbrev pub invariant-loop-word : goal.invariant-loop-word
invariant-loop-word l = with_words (has l.set) (map shown (drop l.word-index l.words)) ≡ with_words no_words (map shown l.words)
