use Rattle.std.proofs.Common.{◌≡◌, map, drop}
use Rattle.compilers.specs.CommandLines.{line_seen}
use Rattle.dry_runs.specs.Parsed.{first_missing}
use Rattle.dry_runs.proofs.parsed.first_missing.Given as goal

abbrev pub invariant-loop-command : goal.invariant-loop-command
invariant-loop-command g l =
    first_missing (g.W.Which.answer l.which) l.cwd l.path (map line_seen (drop l.command-index l.command-items)) ≡ first_missing (g.W.Which.answer l.which) l.cwd l.path l.commands
