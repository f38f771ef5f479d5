use Rattle.std.proofs.Common.{◌≡◌, ◌++◌, map, string_bytes, drop}
use Rattle.command_files.specs.CommandFiles.{image_files}
use Rattle.command_files.proofs.files.fatbinary_files.Given as goal

-- the files so far, and those of the words that are left, are all
abbrev pub invariant-loop-word : goal.invariant-loop-word
invariant-loop-word l = l.reads ++ image_files l.cwd (map string_bytes (drop l.word-index l.words)) ≡ image_files l.cwd (map string_bytes l.words)
