use Rattle.std.proofs.Common.{◌≡◌, ◌++◌, take, drop, option_map}
use Rattle.dry_run_pairs.specs.Agreement as spec
use Rattle.dry_run_pairs.proofs.agreement.place_of.Given as goal

abbrev pub invariant-loop-place : goal.invariant-loop-place
invariant-loop-place l = spec.without_one l.line l.lines ≡ option_map (λ rest. take l.place l.lines ++ rest) (spec.without_one l.line (drop l.place l.lines))
