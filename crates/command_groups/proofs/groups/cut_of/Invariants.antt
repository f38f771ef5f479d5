use Rattle.std.proofs.Common.{◌≡◌, ◌+◌, map, fold, length}
use Rattle.command_groups.specs.Groups.{with_labelled, nothing_cut}
use Rattle.command_groups.specs.Views.{cut_seen, setting_seen, labelled_seen}
use Rattle.command_groups.proofs.groups.cut_of.Given as goal

-- what is cut so far and the commands that are left make up what is cut of all
abbrev pub invariant-loop-command : goal.invariant-loop-command
invariant-loop-command l = record {
  whole : fold (with_labelled (setting_seen l.setting) l.opened) (cut_seen l.cut) (map labelled_seen l.command-iterator.rest.items) ≡ fold (with_labelled (setting_seen l.setting) l.opened) (nothing_cut (length l.opened)) (map labelled_seen l.fn.labelled.items);
  groups : length l.cut.groups.items ≡ length l.opened + 2;
  origins : length l.cut.origins.items ≡ length l.opened + 2;
}
