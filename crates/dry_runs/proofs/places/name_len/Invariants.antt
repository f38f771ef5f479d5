use Rattle.std.proofs.Common.{◌≡◌, ◌+◌, drop}
use Rattle.std.specs.List.{prefix_len}
use Rattle.dry_runs.specs.Environment.{is_name_byte}
use Rattle.dry_runs.proofs.places.name_len.Given as goal

abbrev pub invariant-loop-byte : goal.invariant-loop-byte
invariant-loop-byte l = (l.len ≡ l.byte-index) × (l.len + prefix_len is_name_byte (drop l.byte-index l.text) ≡ prefix_len is_name_byte l.text)
