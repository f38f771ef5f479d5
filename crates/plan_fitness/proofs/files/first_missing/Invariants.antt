use Rattle.std.proofs.Common.{◌≡◌, map, string_bytes, drop, option_copied}
use Rattle.std.specs.List.{position_from}
use Rattle.plan_fitness.specs.Fitness.{is_missing}
use Rattle.plan_fitness.specs.Written.{seen}
use Rattle.plan_fitness.proofs.files.first_missing.Given as goal

abbrev pub invariant-loop-place : goal.invariant-loop-place
invariant-loop-place l =
    position_from (is_missing l.folder (option_copied l.source) (seen l.written)) l.place (map string_bytes (drop l.place l.reads))
    ≡ position_from (is_missing l.folder (option_copied l.source) (seen l.written)) 0 (map string_bytes l.reads)
