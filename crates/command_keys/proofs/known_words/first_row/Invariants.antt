use Rattle.std.proofs.Common.{◌≡◌, map, drop}
use Rattle.std.specs.List.{find}
use Rattle.command_keys.specs.KnownWords.{fits, row_of}
use Rattle.command_keys.proofs.known_words.first_row.Given as goal

abbrev pub invariant-loop-row : goal.invariant-loop-row
invariant-loop-row l = find (fits l.word) (map row_of (drop l.row-index l.rows)) ≡ find (fits l.word) (map row_of l.rows)
