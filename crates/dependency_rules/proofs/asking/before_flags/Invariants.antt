use Rattle.std.proofs.Common.{◌≡◌, ◌+◌, map, string_bytes, drop}
use Rattle.dependency_rules.specs.Asking as spec
use Rattle.dependency_rules.proofs.asking.before_flags.Given as goal

abbrev pub invariant-loop-place : goal.invariant-loop-place
invariant-loop-place l = l.place + spec.before_flags (map string_bytes (drop l.place l.words)) ≡ spec.before_flags (map string_bytes l.words)
