use Rattle.std.proofs.Common.{◌≡◌, map, string_bytes, drop}
use Rattle.std.specs.List.{list_all}
use Rattle.plan_texts.specs.Judging.{holds_text}
use Rattle.plan_texts.proofs.judging.holds_words.Given as goal

abbrev pub invariant-loop-word : goal.invariant-loop-word
invariant-loop-word l = list_all (holds_text l.format) (map string_bytes (drop l.word-index l.words)) ≡ list_all (holds_text l.format) (map string_bytes l.words)
