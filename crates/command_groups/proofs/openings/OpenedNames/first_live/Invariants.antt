use Rattle.std.proofs.Common.{◌≡◌, drop}
use Rattle.command_groups.specs.Openings.{first_live_after, first_live}
use Rattle.command_groups.proofs.openings.OpenedNames.first_live.Given as goal

-- the first one so far, with those that are left, is the first of all
abbrev pub invariant-loop-opening : goal.invariant-loop-opening
invariant-loop-opening l = first_live_after l.self l.first (drop l.opening-index l.openings) ≡ first_live l.self l.openings
