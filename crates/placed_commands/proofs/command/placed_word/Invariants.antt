use Rattle.std.proofs.Common.{◌≡◌, ◌++◌, length, string_bytes}
use denote.Text.{Utf8}
use denote.Shadow.{shadow}
use Rattle.placed_commands.specs.PlacedWords.{placed_word}
use Rattle.placed_commands.proofs.command.placed_word.Given as goal

-- what is placed so far, and the rest of the word once it's placed, are the whole word
abbrev pub invariant-loop-placed : goal.invariant-loop-placed
invariant-loop-placed l = shadow (Utf8 l.rest) × (string_bytes l.placed ++ placed_word l.files l.folder l.rest ≡ placed_word l.files l.folder l.word)

abbrev pub decreases-loop-placed : goal.decreases-loop-placed
decreases-loop-placed l = length l.rest
