use Rattle.std.proofs.Common.{◌≡◌, ◌+◌, ◌-◌, ◌≤◌, drop, length}
use Rattle.std.specs.List.{position_or_len}
use Rattle.texts.specs.Shell.Splitting.{ends_span}
use Rattle.texts.proofs.shell.span.span_len.Given as goal

abbrev pub invariant-loop-at : goal.invariant-loop-at
invariant-loop-at l =
    (l.at ≤ length l.text)
    × (l.at + position_or_len (ends_span l.state) (drop l.at l.text) ≡ position_or_len (ends_span l.state) l.text)

abbrev pub decreases-loop-at : goal.decreases-loop-at
decreases-loop-at l = length l.text - l.at
