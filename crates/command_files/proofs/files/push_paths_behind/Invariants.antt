use Rattle.std.proofs.Common.{◌≡◌, ◌++◌, map, string_bytes, drop}
use Rattle.command_files.specs.CommandFiles.{paths_behind}
use Rattle.command_files.proofs.files.push_paths_behind.Given as goal

-- the paths so far, and those of the words that are left, are all
abbrev pub invariant-loop-word : goal.invariant-loop-word
invariant-loop-word l =
    l.files ++ paths_behind l.cwd l.text (map string_bytes (drop l.word-index l.words)) ≡ l.initial.files ++ paths_behind l.cwd l.text (map string_bytes l.words)
