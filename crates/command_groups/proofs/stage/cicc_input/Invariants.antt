use Rattle.std.proofs.Common.{◌≡◌, map, string_bytes, drop}
use Rattle.command_groups.specs.Stage.{cicc_input}
use Rattle.command_groups.proofs.stage.cicc_input.Given as goal

abbrev pub invariant-loop-word : goal.invariant-loop-word
invariant-loop-word l = cicc_input (map string_bytes (drop l.word-index l.words)) ≡ cicc_input (map string_bytes l.words)
