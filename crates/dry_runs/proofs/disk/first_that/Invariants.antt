use Rattle.std.proofs.Common.{ℕ, List, Option, map, string_bytes}
use Rattle.dry_runs.specs.Snapshot.{IsFirstThat}
use Rattle.dry_runs.proofs.disk.first_that.Given as goal

-- what is found in the paths that are left is found in all
abbrev pub invariant-loop-path : goal.invariant-loop-path
invariant-loop-path g l = (found : Option (List ℕ)) → IsFirstThat (goal.F-post g l.runs) (map string_bytes l.path-iterator.rest.now) found → IsFirstThat (goal.F-post g l.runs) l.paths found
