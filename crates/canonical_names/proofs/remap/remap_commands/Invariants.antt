use Rattle.std.proofs.Common.{◌≡◌, ◌++◌, map}
use Rattle.compilers.specs.CommandLines.{line_seen}
use Rattle.canonical_names.specs.Renaming.{renamed, renamed_after}
use Rattle.canonical_names.proofs.remap.remap_commands.Given as goal

abbrev pub invariant-loop-command : goal.invariant-loop-command
invariant-loop-command l = record {
  suffixes : l.renames.0 ≡ l.suffixes;
  commands : map line_seen l.renamed.items ++ renamed_after l.suffixes l.renames.1 (map line_seen l.command-iterator.rest.items) ≡ renamed l.suffixes l.fn.commands;
}
