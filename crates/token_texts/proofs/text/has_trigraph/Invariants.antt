use Rattle.std.proofs.Common.{◌≡◌, length}
use Rattle.token_texts.specs.Lexing.{has_trigraph}
use Rattle.token_texts.proofs.text.has_trigraph.Given as goal

abbrev pub invariant-loop-byte : goal.invariant-loop-byte
invariant-loop-byte l = has_trigraph l.rest ≡ has_trigraph l.text

abbrev pub decreases-loop-byte : goal.decreases-loop-byte
decreases-loop-byte l = length l.rest
