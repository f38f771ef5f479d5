use Rattle.std.proofs.Common.{length}
use denote.Text.{Utf8}
use denote.Shadow.{shadow}
use Rattle.dry_runs.proofs.PlaceLemmas.{FirstSoFar}
use Rattle.dry_runs.proofs.set_variables.SetVariables.first_referred.Given as goal

-- what is left to read decides which variables before the place count
abbrev pub invariant-loop-after : goal.invariant-loop-after
invariant-loop-after l = shadow (Utf8 l.rest) × FirstSoFar l.self l.from l.text l.rest l.place

abbrev pub decreases-loop-after : goal.decreases-loop-after
decreases-loop-after l = length l.rest
