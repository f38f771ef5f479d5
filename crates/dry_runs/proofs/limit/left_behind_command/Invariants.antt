use Rattle.std.proofs.Common.{◌≡◌, ◌+◌, ◌∷◌, map, drop, string_bytes}
use Rattle.dry_runs.specs.Limit.{left_behind, bytes_of_words, line_cost}
use Rattle.dry_runs.proofs.limit.left_behind_command.Given as goal

abbrev pub invariant-loop-word : goal.invariant-loop-word
invariant-loop-word l = left_behind l.room (bytes_of_words (map string_bytes (drop l.word-index l.words))) ≡ left_behind l.left (line_cost + bytes_of_words (l.path ∷ map string_bytes l.words))
