use Rattle.std.proofs.Common.{◌≡◌, map, string_bytes, drop}
use Rattle.dependency_rules.specs.Orders as spec
use Rattle.dependency_rules.proofs.orders.is_for_device.Given as goal

abbrev pub invariant-loop-word : goal.invariant-loop-word
invariant-loop-word l = spec.is_for_device (map string_bytes (drop l.word-index l.words)) ≡ spec.is_for_device (map string_bytes l.words)
