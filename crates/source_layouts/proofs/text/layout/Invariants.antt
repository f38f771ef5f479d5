use Rattle.std.proofs.Common.{◌≡◌, drop}
use Rattle.source_layouts.specs.Reading.{beginning, read}
use Rattle.source_layouts.proofs.text.layout.Given as goal

abbrev pub invariant-loop-byte : goal.invariant-loop-byte
invariant-loop-byte l = read l.reader (drop l.byte-index l.text) ≡ read (beginning l.is_lined) l.text
