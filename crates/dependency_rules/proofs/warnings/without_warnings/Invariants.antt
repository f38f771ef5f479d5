use Rattle.std.proofs.Common.{◌≡◌, ◌++◌, length}
use Rattle.dependency_rules.specs.Warnings.{rest_without, without_warnings}
use Rattle.dependency_rules.proofs.warnings.without_warnings.Given as goal

-- what is left so far, and what is left of the rest, are all
abbrev pub invariant-loop-byte : goal.invariant-loop-byte
invariant-loop-byte l = l.left.items ++ rest_without l.warns l.rest ≡ without_warnings l.text

abbrev pub decreases-loop-byte : goal.decreases-loop-byte
decreases-loop-byte l = length l.rest
