use Rattle.std.proofs.Common.{◌≡◌, List, [], map, fold, ap, sym, ◌∙◌}
use Rattle.std.proofs.lemmas.List.{nil_from_length}
use Rattle.command_groups.specs.declared.merged_commands.SelectedCommand.{SelectedCommand}
use Rattle.command_groups.specs.Views.{grouping_seen, command_seen}
use Rattle.command_groups.specs.Groups.{with_command}
use Rattle.command_groups.specs.Stage.{staged}
use Rattle.command_groups.proofs.labels.label_all.Goals as goal

pub returns : goal.returns
returns c =
    let none_left : c.loop-command.command-iterator.rest.items ≡ [] = nil_from_length _ (sym c.loop-command.command-iterator.rest.ok.0 ∙ c.in-None.ensures.steps.0) in
    ap (λ (left : List SelectedCommand). fold with_command (grouping_seen c.loop-command.grouping) (map (staged c.args.call.now.host_compiler c.args.call.now.compilation_flag.now) (map command_seen left))) (sym none_left) ∙ c.loop-command.invariant
