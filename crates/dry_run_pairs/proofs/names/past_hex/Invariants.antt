use Rattle.std.proofs.Common.{◌≡◌, drop}
use Rattle.dry_run_pairs.specs.Cuts as cuts
use Rattle.dry_run_pairs.specs.Names as spec
use Rattle.dry_run_pairs.proofs.names.past_hex.Given as goal

abbrev pub invariant-loop-at : goal.invariant-loop-at
invariant-loop-at l = cuts.past spec.is_hex_digit l.text ≡ cuts.past spec.is_hex_digit (drop l.at l.text)
