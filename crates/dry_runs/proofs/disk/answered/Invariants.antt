use Rattle.std.proofs.Common.{◌++◌, List}
use Rattle.dry_runs.specs.declared.snapshot.Entry.{Entry}
use Rattle.dry_runs.specs.Snapshot.{IsTaken}
use Rattle.dry_runs.proofs.disk.answered.Given as goal

-- the entries so far, and those of the look-ups that are left, are those of all
abbrev pub invariant-loop-lookup : goal.invariant-loop-lookup
invariant-loop-lookup g l = (more : List Entry) → IsTaken (goal.F-post g l.runs) l.lookup-iterator.rest.items more → IsTaken (goal.F-post g l.runs) l.fn.lookups.items (l.entries.items ++ more)
