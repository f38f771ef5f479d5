use Rattle.std.proofs.Common.{◌≡◌, ◌++◌, map, drop}
use Rattle.compilers.specs.CommandLines.{line_seen}
use Rattle.canonical_names.specs.Appearances.{appearances}
use Rattle.canonical_names.specs.Shown.{name_shown}
use Rattle.cuda_plans.proofs.shadow.appearances.Given as goal

abbrev pub invariant-loop-command : goal.invariant-loop-command
invariant-loop-command l = map name_shown l.names.items ++ appearances l.suffixes (map line_seen (drop l.command-index l.commands)) ≡ appearances l.suffixes (map line_seen l.commands)
