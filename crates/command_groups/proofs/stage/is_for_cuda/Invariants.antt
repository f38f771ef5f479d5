use Rattle.std.proofs.Common.{◌≡◌, map, string_bytes, drop}
use Rattle.command_groups.specs.Stage.{is_for_cuda}
use Rattle.command_groups.proofs.stage.is_for_cuda.Given as goal

abbrev pub invariant-loop-word : goal.invariant-loop-word
invariant-loop-word l = is_for_cuda (map string_bytes (drop l.word-index l.words)) ≡ is_for_cuda (map string_bytes l.words)
