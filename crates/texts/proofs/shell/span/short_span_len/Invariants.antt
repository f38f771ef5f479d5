use Rattle.std.proofs.Common.{◌≡◌, ◌+◌, drop}
use Rattle.std.specs.List.{position_or_len}
use Rattle.texts.specs.Shell.Splitting.{ends_span}
use Rattle.texts.proofs.shell.span.short_span_len.Given as goal

abbrev pub invariant-loop-byte : goal.invariant-loop-byte
invariant-loop-byte l =
    (l.len ≡ l.byte-index)
    × (l.len + position_or_len (ends_span l.state) (drop l.byte-index l.text) ≡ position_or_len (ends_span l.state) l.text)
