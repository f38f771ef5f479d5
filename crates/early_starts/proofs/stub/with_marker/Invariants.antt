use Rattle.std.proofs.Common.{◌≡◌, ◌++◌, [], drop}
use Rattle.early_starts.specs.StubTexts.{renamed_from}
use Rattle.early_starts.proofs.stub.with_marker.Given as goal

-- the lines so far, and what comes of the rest behind the line that has begun, are all
abbrev pub invariant-loop-byte : goal.invariant-loop-byte
invariant-loop-byte l = l.made.items ++ renamed_from l.own l.other l.line.items (drop l.byte-index l.text) ≡ renamed_from l.own l.other [] l.text
