use Rattle.std.proofs.Common.{◌≡◌, map, string_bytes, drop}
use Rattle.plan_fitness.specs.Fitness.{is_among}
use Rattle.plan_fitness.proofs.files.is_among.Given as goal

abbrev pub invariant-loop-other : goal.invariant-loop-other
invariant-loop-other l = is_among l.path (map string_bytes (drop l.other-index l.paths)) ≡ is_among l.path (map string_bytes l.paths)
