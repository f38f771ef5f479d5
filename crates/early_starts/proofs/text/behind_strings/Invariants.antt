use Rattle.std.proofs.Common.{◌≡◌, length}
use Rattle.early_starts.specs.LateTexts.{behind_strings, between}
use Rattle.early_starts.proofs.text.behind_strings.Given as goal

abbrev pub invariant-loop-byte : goal.invariant-loop-byte
invariant-loop-byte l = behind_strings l.state l.rest ≡ behind_strings between l.text

abbrev pub decreases-loop-byte : goal.decreases-loop-byte
decreases-loop-byte l = length l.rest
