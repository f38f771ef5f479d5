use Rattle.std.proofs.Common.{◌≡◌, drop}
use Rattle.dry_runs.specs.Places.{first_below, follows_from}
use Rattle.dry_runs.proofs.set_variables.SetVariables.first_of.Given as goal

-- the first place of those that are left is the first of all
abbrev pub invariant-loop-place : goal.invariant-loop-place
invariant-loop-place l = first_below (follows_from l.from l.self l.after) l.bound (drop l.place-index l.places) ≡ first_below (follows_from l.from l.self l.after) l.bound l.places
