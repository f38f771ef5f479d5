use Rattle.std.proofs.Common.{◌≡◌, ◌++◌, [], map, drop, string_bytes}
use denote.Text.{Utf8}
use denote.Shadow.{shadow}
use Rattle.placed_commands.specs.PlacedWords.{placed_words}
use Rattle.placed_commands.proofs.command.placed_words.Given as goal

-- the words so far, and those that are left behind the last of them, are all
abbrev pub invariant-loop-word : goal.invariant-loop-word
invariant-loop-word l =
    shadow (Utf8 l.before)
    × (l.placed ++ placed_words l.files l.folder l.before (map string_bytes (drop l.word-index l.words)) ≡ placed_words l.files l.folder [] (map string_bytes l.words))
