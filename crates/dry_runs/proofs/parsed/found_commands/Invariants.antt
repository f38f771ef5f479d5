use Rattle.std.proofs.Common.{◌≡◌, map}
use Rattle.compilers.specs.CommandLines.{line_seen}
use Rattle.dry_runs.specs.Parsed.{found_commands}
use Rattle.dry_runs.proofs.ParsedLemmas.{found_behind}
use Rattle.dry_runs.proofs.parsed.found_commands.Given as goal

abbrev pub invariant-loop-line : goal.invariant-loop-line
invariant-loop-line g l =
    found_behind l.found (found_commands (g.W.Which.answer l.which) l.cwd l.path (map line_seen l.line-iterator.rest.items))
    ≡ found_commands (g.W.Which.answer l.which) l.cwd l.path l.fn.commands
