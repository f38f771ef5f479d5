use Rattle.std.proofs.Common.{◌≡◌, map, string_bytes, length}
use Rattle.plan_texts.specs.Description.{target_of}
use Rattle.plan_texts.proofs.description.target_of.Given as goal

abbrev pub invariant-loop-word : goal.invariant-loop-word
invariant-loop-word l = target_of (map string_bytes l.rest) ≡ target_of (map string_bytes l.words)

abbrev pub decreases-loop-word : goal.decreases-loop-word
decreases-loop-word l = length l.rest
