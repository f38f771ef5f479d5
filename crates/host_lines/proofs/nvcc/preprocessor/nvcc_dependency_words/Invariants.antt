use Rattle.std.proofs.Common.{◌≡◌, Some, map, string_bytes, drop, fold}
use Rattle.texts.specs.Lists.{with_name}
use Rattle.host_lines.specs.Preprocess.{nvcc_dependency_word, nvcc_dependency_words}
use Rattle.host_lines.proofs.nvcc.preprocessor.nvcc_dependency_words.Given as goal

-- the words kept are those seen, and with those of the rest they are all that stand first
abbrev pub invariant-loop-word : goal.invariant-loop-word
invariant-loop-word l =
    (map (λ k. k.now) l.seen.keys ≡ l.first) × (fold (λ seen word. with_name seen (Some word)) l.first (map nvcc_dependency_word (map string_bytes (drop l.word-index l.words))) ≡ nvcc_dependency_words (map string_bytes l.words))
