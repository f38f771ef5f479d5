use Rattle.std.proofs.Common.{◌≡◌, None, map, string_bytes, drop, option_copied}
use Rattle.command_files.specs.CommandFiles.{word_before}
use Rattle.command_files.proofs.files.word_before.Given as goal

-- the word before the option among those that are left, behind the one that was last, is that of all words
abbrev pub invariant-loop-word : goal.invariant-loop-word
invariant-loop-word l =
    word_before l.option (option_copied l.before) (map string_bytes (drop l.word-index l.words)) ≡ word_before l.option None (map string_bytes l.words)
