use Rattle.std.proofs.Common.{◌≡◌, ◌++◌, map, string_bytes, drop}
use Rattle.plan_texts.specs.Shown.{show_line}
use Rattle.plan_texts.proofs.line.shown_words.Given as goal

abbrev pub invariant-loop-word : goal.invariant-loop-word
invariant-loop-word l = string_bytes l.text ++ show_line (map string_bytes (drop l.word-index l.words)) ≡ show_line (map string_bytes l.words)
