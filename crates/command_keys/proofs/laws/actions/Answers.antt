use Rattle.command_keys.proofs.ActionLemmas.{equal-actions_rename, renamed-actions_are_equal}
use Rattle.command_keys.proofs.laws.actions.Goals as goal

pub returns : goal.returns
returns c = record { equal = equal-actions_rename; renamed = renamed-actions_are_equal }
