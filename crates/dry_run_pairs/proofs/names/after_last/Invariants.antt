use Rattle.std.proofs.Common.{◌≡◌, ◌≤◌, drop, length, option_copied, IfSome}
use Rattle.std.specs.Option.{option_or}
use Rattle.dry_run_pairs.specs.Names as spec
use Rattle.dry_run_pairs.proofs.names.after_last.Given as goal

abbrev pub invariant-loop-at : goal.invariant-loop-at
invariant-loop-at l =
    (option_or (spec.after_last (drop l.at l.name)) (option_copied l.found) ≡ spec.after_last l.name) × IfSome l.found (λ rest. length rest.now ≤ length l.name)
