use Rattle.std.proofs.Common.{◌≡◌, map, drop, bytes_eq}
use Rattle.std.specs.List.{position_from}
use Rattle.command_keys.specs.CountedWords.{place_of}
use Rattle.command_keys.specs.Keys.{shown}
use Rattle.command_keys.proofs.counting.place_of.Given as goal

abbrev pub invariant-loop-place : goal.invariant-loop-place
invariant-loop-place l = position_from (λ file. bytes_eq file l.path) l.place (map shown (drop l.place l.files)) ≡ place_of l.path (map shown l.files)
