use Rattle.std.proofs.Common.{◌≡◌, map, string_bytes, length}
use Rattle.canonical_names.specs.SuffixRule.{are_apart}
use Rattle.canonical_names.proofs.suffixes.are_apart.Given as goal

abbrev pub invariant-loop-suffix : goal.invariant-loop-suffix
invariant-loop-suffix l = are_apart (map string_bytes l.rest) ≡ are_apart (map string_bytes l.list)

abbrev pub decreases-loop-suffix : goal.decreases-loop-suffix
decreases-loop-suffix l = length l.rest
