use Rattle.std.proofs.Common.{◌≡◌, map, drop, string_bytes}
use denote.Text.{Utf8}
use denote.Shadow.{shadow}
use Rattle.early_starts.specs.LateWords.{are_in_order, has_halves}
use Rattle.early_starts.proofs.words.has_halves.Given as goal

abbrev pub invariant-loop-word : goal.invariant-loop-word
invariant-loop-word l = shadow (Utf8 l.before) × (are_in_order l.expected l.before (map string_bytes (drop l.word-index l.words)) ≡ has_halves (map string_bytes l.words))
