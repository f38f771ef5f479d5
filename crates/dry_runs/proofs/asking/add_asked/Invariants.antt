use Rattle.std.proofs.Common.{◌≡◌, map, drop}
use Rattle.compilers.specs.CommandLines.{line_seen}
use Rattle.dry_runs.specs.Asked.{lookup_in, lookups_in}
use Rattle.dry_runs.specs.Lookup.{with_lookups}
use Rattle.dry_runs.proofs.asking.add_asked.Given as goal

-- the look-ups so far, and behind them those of the commands that are left, are all
abbrev pub invariant-loop-command : goal.invariant-loop-command
invariant-loop-command l =
    with_lookups l.lookups.items (map (lookup_in l.path l.folder) (map line_seen (drop l.command-index l.command-items)))
    ≡ with_lookups l.fn.lookups.items (lookups_in l.folder l.run)
