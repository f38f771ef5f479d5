use Rattle.std.proofs.Common.{◌≡◌, ◌++◌, length, map, string_bytes}
use denote.Text.{Utf8}
use denote.Shadow.{shadow}
use Rattle.dry_runs.specs.PlainWords.{between}
use Rattle.dry_runs.proofs.plain_words.cut_at_spaces.Given as goal

abbrev pub invariant-loop-word : goal.invariant-loop-word
invariant-loop-word l = shadow (Utf8 l.rest) × (map string_bytes l.words.items ++ between l.rest ≡ between l.text)

abbrev pub decreases-loop-word : goal.decreases-loop-word
decreases-loop-word l = length l.rest
