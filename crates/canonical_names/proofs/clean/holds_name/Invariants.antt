use Rattle.std.proofs.Common.{◌≡◌, map, drop}
use Rattle.std.specs.List.{list_any}
use Rattle.compilers.specs.CommandLines.{line_seen}
use Rattle.canonical_names.specs.Alike.{holds}
use Rattle.canonical_names.specs.Appearances.{appearances}
use Rattle.canonical_names.proofs.clean.holds_name.Given as goal

abbrev pub invariant-loop-command : goal.invariant-loop-command
invariant-loop-command l = list_any (λ n. holds n l.text) (appearances l.suffixes (map line_seen (drop l.command-index l.commands))) ≡ list_any (λ n. holds n l.text) (appearances l.suffixes (map line_seen l.commands))
