use Rattle.std.proofs.Common.{◌≡◌, map, drop, string_bytes}
use Rattle.early_starts.specs.Splits.{embedded}
use Rattle.early_starts.proofs.split.embedded.Given as goal

abbrev pub invariant-loop-word : goal.invariant-loop-word
invariant-loop-word l = embedded (map string_bytes (drop l.word-index l.words)) ≡ embedded (map string_bytes l.words)
