use Rattle.std.proofs.Common.{◌≡◌, drop}
use Rattle.record_causes.specs.Causes.{first_change}
use Rattle.record_causes.proofs.causes.first_change.Given as goal

-- the first change in the commands that are left is that in all
abbrev pub invariant-loop-command : goal.invariant-loop-command
invariant-loop-command l = first_change l.command (drop l.command l.commands) l.rest ≡ first_change 0 l.commands l.others
