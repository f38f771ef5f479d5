use Rattle.std.proofs.Common.{◌≡◌, ◌++◌, take, drop, option_map}
use Rattle.dry_run_pairs.specs.Cuts as spec
use Rattle.dry_run_pairs.proofs.cuts.cut.Given as goal

abbrev pub invariant-loop-at : goal.invariant-loop-at
invariant-loop-at l = spec.cut l.mark l.text ≡ option_map (λ parts. (take l.at l.text ++ parts.0, parts.1)) (spec.cut l.mark (drop l.at l.text))
