use Rattle.std.proofs.Common.{◌≡◌, ◌++◌, length}
use Rattle.dry_run_pairs.specs.Names as spec
use Rattle.dry_run_pairs.proofs.names.push_bare.Given as goal

abbrev pub invariant-loop-byte : goal.invariant-loop-byte
invariant-loop-byte l =
    l.out.items ++ spec.bare_from (spec.front_of l.temporaries l.folders) 0 l.opens l.rest ≡ l.initial.out.items ++ spec.bare (spec.front_of l.temporaries l.folders) l.text

abbrev pub decreases-loop-byte : goal.decreases-loop-byte
decreases-loop-byte l = length l.rest
