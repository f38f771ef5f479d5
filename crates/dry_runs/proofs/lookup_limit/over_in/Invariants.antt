use Rattle.std.proofs.Common.{◌≡◌, map, drop}
use Rattle.compilers.specs.CommandLines.{line_seen}
use Rattle.dry_runs.specs.LookupLimit.{first_over, over_in}
use Rattle.dry_runs.proofs.lookup_limit.over_in.Given as goal

-- the first of the commands that are left is the first of all
abbrev pub invariant-loop-command : goal.invariant-loop-command
invariant-loop-command l = first_over l.path l.folder l.left (map line_seen (drop l.command-index l.command-items)) ≡ over_in l.limit l.folder l.run
