use Rattle.std.proofs.Common.{◌≡◌, map, drop}
use Rattle.std.specs.List.{list_any}
use Rattle.command_keys.specs.Keys.{shown}
use Rattle.command_keys.specs.WordTable.{shows_names}
use Rattle.command_keys.proofs.known_words.names_reach.Given as goal

abbrev pub invariant-loop-word : goal.invariant-loop-word
invariant-loop-word l = list_any (shows_names l.tool) (map shown (drop l.word-index l.words)) ≡ list_any (shows_names l.tool) (map shown l.words)
