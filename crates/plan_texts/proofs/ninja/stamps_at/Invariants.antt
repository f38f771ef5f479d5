use Rattle.std.proofs.Common.{◌≡◌, ◌++◌, string_bytes, drop}
use Rattle.plan_texts.specs.Graph.{stamps_at}
use Rattle.plan_texts.proofs.ninja.stamps_at.Given as goal

abbrev pub invariant-loop-number : goal.invariant-loop-number
invariant-loop-number l = string_bytes l.text ++ stamps_at l.places (drop l.number-index l.numbers) ≡ stamps_at l.places l.numbers
