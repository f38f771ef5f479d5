use Rattle.std.proofs.Common.{◌≡◌, ◌++◌, map}
use Rattle.compilers.specs.CommandLines.{line_seen}
use Rattle.command_groups.specs.Merge as spec
use Rattle.command_groups.specs.Views.{command_seen, takes_stem}
use Rattle.command_groups.proofs.merged_commands.selected.Given as goal

-- the commands taken so far, and those that are taken of the rest, are all that are taken
abbrev pub invariant-loop-line : goal.invariant-loop-line
invariant-loop-line l =
    map command_seen l.taken.items ++ map (spec.of_run l.run) (spec.selected (takes_stem l.own) (map line_seen l.line-iterator.rest.items)) ≡ map (spec.of_run l.run) (spec.selected (takes_stem l.own) l.fn.commands)
