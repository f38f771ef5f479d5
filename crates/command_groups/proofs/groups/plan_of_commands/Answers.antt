use Rattle.std.proofs.Common.{List, map, ap, ◌∙◌}
use Rattle.std.specs.Vec.Iter.{into_iter_items}
use Rattle.command_groups.specs.Groups.{plan_by_labels}
use Rattle.command_groups.specs.Views.{setting_seen, command_seen}
use Rattle.command_groups.specs.Stage.{StagedCommand, staged}
use Rattle.command_groups.proofs.GroupLemmas.{cut_is_plan}
use Rattle.command_groups.proofs.groups.plan_of_commands.Goals as goal

pub returns : goal.returns
returns c =
    let s = setting_seen c.args.setting.now in
    let commands : List StagedCommand = map (staged c.args.setting.now.call.now.host_compiler s.flag) (map command_seen (into_iter_items c.args.commands)) in
    c.in_ok-planned.ensures ∙ ap (plan_by_labels s) c.in_ok-opened.ensures ∙ cut_is_plan s commands
