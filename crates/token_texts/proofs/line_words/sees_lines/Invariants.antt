use Rattle.std.proofs.Common.{◌≡◌, length}
use Rattle.token_texts.specs.LineWords as spec
use Rattle.token_texts.proofs.line_words.sees_lines.Given as goal

abbrev pub invariant-loop-others : goal.invariant-loop-others
invariant-loop-others l = spec.sees_lines l.rest ≡ spec.sees_lines l.text

abbrev pub decreases-loop-others : goal.decreases-loop-others
decreases-loop-others l = length l.rest
