use Rattle.std.proofs.Common.{◌≡◌, map, fold}
use Rattle.compilers.specs.Outputs.{with_entry}
use Rattle.compilers.proofs.outputs.Outputs.try_clone.Given as goal

abbrev pub invariant-loop-key : goal.invariant-loop-key
invariant-loop-key l = fold with_entry l.copy (map (λ e. (e.0.now, e.1)) l.key-iterator) ≡ l.self
