use Rattle.std.proofs.Common.{◌≡◌, map, fold}
use Rattle.std.specs.Vec.Iter.{into_iter_items}
use Rattle.command_groups.specs.Views.{grouping_seen, command_seen}
use Rattle.command_groups.specs.Groups.{with_command, grouped}
use Rattle.command_groups.specs.Stage.{staged}
use Rattle.command_groups.proofs.labels.label_all.Given as goal

-- the grouping so far and the commands that are left make up the grouping of all
abbrev pub invariant-loop-command : goal.invariant-loop-command
invariant-loop-command l =
    fold with_command (grouping_seen l.grouping) (map (staged l.call.host_compiler l.call.compilation_flag.now) (map command_seen (into_iter_items l.command-iterator))) ≡
    grouped (map (staged l.call.host_compiler l.call.compilation_flag.now) (map command_seen (into_iter_items l.fn.commands)))
