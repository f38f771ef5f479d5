use Rattle.std.proofs.Common.{◌≡◌, drop}
use Rattle.dry_runs.specs.Snapshot.{answer_in}
use Rattle.dry_runs.proofs.snapshot.answer.Given as goal

abbrev pub invariant-loop-entry : goal.invariant-loop-entry
invariant-loop-entry l = answer_in (drop l.entry-index l.entries) l.program l.path l.folder ≡ answer_in l.entries l.program l.path l.folder
