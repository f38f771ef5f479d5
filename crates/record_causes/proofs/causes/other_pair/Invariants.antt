use Rattle.std.proofs.Common.{◌≡◌, map, drop}
use Rattle.texts.specs.Variables.{pair_of}
use Rattle.record_causes.specs.Causes.{is_same}
use Rattle.record_causes.specs.Places.{first_other}
use Rattle.record_causes.proofs.causes.other_pair.Given as goal

-- what is first otherwise in what is left is so in all
abbrev pub invariant-loop-place : goal.invariant-loop-place
invariant-loop-place l =
    first_other is_same l.place (map pair_of (drop l.place l.pairs)) (map pair_of l.rest)
    ≡ first_other is_same 0 (map pair_of l.pairs) (map pair_of l.others)
