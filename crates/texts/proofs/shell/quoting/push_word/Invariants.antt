use Rattle.std.proofs.Common.{string_bytes, ◌≡◌, ◌++◌, encode_utf8_all, flat_map}
use Rattle.texts.specs.Shell.Quoting.{quoted_char}
use Rattle.texts.proofs.shell.quoting.push_word.Given as goal

abbrev pub invariant-loop-c : goal.invariant-loop-c
invariant-loop-c l = string_bytes l.text ≡ string_bytes l.initial.text ++ encode_utf8_all (flat_map quoted_char l.yielded)
