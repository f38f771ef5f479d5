use Rattle.std.proofs.Common.{◌≡◌, ◌++◌, [], map, drop, string_bytes}
use denote.Text.{Utf8}
use denote.Shadow.{shadow}
use Rattle.rooted_commands.specs.Commands.{source_words}
use Rattle.rooted_commands.proofs.commands.source_words.Given as goal

-- the words so far, and those that are left behind the last of them, are all
abbrev pub invariant-loop-word : goal.invariant-loop-word
invariant-loop-word l =
    shadow (Utf8 l.before)
    × (l.rooted ++ source_words l.root l.before (map string_bytes (drop l.word-index l.words)) ≡ source_words l.root [] (map string_bytes l.words))
