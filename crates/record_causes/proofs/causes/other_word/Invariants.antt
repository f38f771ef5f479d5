use Rattle.std.proofs.Common.{◌≡◌, map, string_bytes, bytes_eq, drop}
use Rattle.record_causes.specs.Places.{first_other}
use Rattle.record_causes.proofs.causes.other_word.Given as goal

-- what is first otherwise in what is left is so in all
abbrev pub invariant-loop-place : goal.invariant-loop-place
invariant-loop-place l =
    first_other bytes_eq l.place (map string_bytes (drop l.place l.words)) (map string_bytes l.rest)
    ≡ first_other bytes_eq 0 (map string_bytes l.words) (map string_bytes l.others)
