use Rattle.std.proofs.Common.{◌≡◌, map, string_bytes, drop}
use Rattle.std.specs.List.{list_any}
use Rattle.rooted_commands.specs.Commands.{tells_of_names}
use Rattle.rooted_commands.proofs.commands.any_tells_of_names.Given as goal

abbrev pub invariant-loop-word : goal.invariant-loop-word
invariant-loop-word l = list_any tells_of_names (map string_bytes (drop l.word-index l.words)) ≡ list_any tells_of_names (map string_bytes l.words)
