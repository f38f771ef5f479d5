use Rattle.std.proofs.Common.{string_bytes, ◌≡◌, ◌++◌, map, drop, encode_utf8_all, chars}
use Rattle.texts.specs.Shell.Quoting.{further}
use Rattle.texts.proofs.shell.quoting.push_further.Given as goal

abbrev pub invariant-loop-word : goal.invariant-loop-word
invariant-loop-word l =
    string_bytes l.text ++ encode_utf8_all (further (map chars (map string_bytes (drop l.word-index l.words))))
    ≡ string_bytes l.fn.text ++ encode_utf8_all (further (map chars (map string_bytes l.words)))
