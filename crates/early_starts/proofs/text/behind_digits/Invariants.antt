use Rattle.std.proofs.Common.{◌≡◌, length}
use Rattle.early_starts.specs.LateTexts.{behind_digits}
use Rattle.early_starts.proofs.text.behind_digits.Given as goal

abbrev pub invariant-loop-byte : goal.invariant-loop-byte
invariant-loop-byte l = behind_digits l.rest ≡ behind_digits l.text

abbrev pub decreases-loop-byte : goal.decreases-loop-byte
decreases-loop-byte l = length l.rest
