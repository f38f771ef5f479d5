use Rattle.std.proofs.Common.{◌≡◌, ◌++◌, drop}
use Rattle.dependency_rules.specs.Rules as spec
use Rattle.dependency_rules.proofs.rules.push_name.Given as goal

abbrev pub invariant-loop-byte : goal.invariant-loop-byte
invariant-loop-byte l = l.text.items ++ spec.written (drop l.byte-index l.name) ≡ l.initial.text.items ++ spec.written l.name
