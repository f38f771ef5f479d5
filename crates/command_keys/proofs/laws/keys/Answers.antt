use Rattle.command_keys.proofs.KeyLemmas.{keys-read_back, equal-keys_rename, renamed-keys_are_equal}
use Rattle.command_keys.proofs.laws.keys.Goals as goal

pub returns : goal.returns
returns c = record { read_back = keys-read_back; equal = equal-keys_rename; renamed = renamed-keys_are_equal }
