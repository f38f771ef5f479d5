use Rattle.std.proofs.Common.{◌≡◌, ◌++◌, map, string_bytes, drop}
use Rattle.host_lines.specs.Preprocess.{nvhpc_dependency_word}
use Rattle.host_lines.proofs.nvhpc.dependency_words.Given as goal

-- the words replaced so far, and the rest replaced, are all words replaced
abbrev pub invariant-loop-word : goal.invariant-loop-word
invariant-loop-word l =
    l.replaced ++ map nvhpc_dependency_word (map string_bytes (drop l.word-index l.words)) ≡ map nvhpc_dependency_word (map string_bytes l.words)
