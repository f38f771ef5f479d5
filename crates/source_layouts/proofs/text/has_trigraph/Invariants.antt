use Rattle.std.proofs.Common.{◌≡◌, length}
use Rattle.source_layouts.specs.Reading.{has_trigraph}
use Rattle.source_layouts.proofs.text.has_trigraph.Given as goal

abbrev pub invariant-loop-byte : goal.invariant-loop-byte
invariant-loop-byte l = has_trigraph l.rest ≡ has_trigraph l.text

abbrev pub decreases-loop-byte : goal.decreases-loop-byte
decreases-loop-byte l = length l.rest
