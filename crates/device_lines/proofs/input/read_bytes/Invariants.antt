-- What was gathered is what the reader gave of the bytes that it had.
use Rattle.std.specs.Io.KnownBytes.{Consumes}
use Rattle.device_lines.proofs.input.read_bytes.Given as goal

abbrev pub invariant-loop : goal.invariant-loop
invariant-loop g l = Consumes (g.R.Read.remaining l.initial.reader) (g.R.Read.remaining l.reader) l.bytes.items
