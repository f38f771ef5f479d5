use Rattle.std.proofs.Common.{◌≡◌, ◌++◌, map, drop, string_bytes}
use Rattle.rooted_commands.specs.Commands.{ident_word}
use Rattle.rooted_commands.proofs.commands.ident_words.Given as goal

abbrev pub invariant-loop-word : goal.invariant-loop-word
invariant-loop-word l = l.rooted ++ map (ident_word l.root) (map string_bytes (drop l.word-index l.words)) ≡ map (ident_word l.root) (map string_bytes l.words)
