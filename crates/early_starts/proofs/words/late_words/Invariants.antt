use Rattle.std.proofs.Common.{◌≡◌, ◌++◌, [], map, drop, string_bytes}
use denote.Text.{Utf8}
use denote.Shadow.{shadow}
use Rattle.early_starts.specs.LateWords.{words_behind}
use Rattle.early_starts.proofs.words.late_words.Given as goal

-- the words so far, and those of the words that are left, are all
abbrev pub invariant-loop-word : goal.invariant-loop-word
invariant-loop-word l = shadow (Utf8 l.before) × (l.late ++ words_behind l.half l.text_file l.before (map string_bytes (drop l.word-index l.words)) ≡ words_behind l.half l.text_file [] (map string_bytes l.words))
