use Rattle.dry_runs.specs.Asked.{asked_of_both}
use Rattle.dry_runs.proofs.SnapshotLemmas.{exact-both}
use Rattle.dry_runs.proofs.disk.snapshot_by.Goals as goal

pub returns-clause-exact : goal.returns-clause-exact
returns-clause-exact g c =
    λ test acts. exact-both (goal.F-post g c.args.runs) test acts c.in_ok-both.both.items (asked_of_both c.args.dry1.now c.args.dry2.now c.args.folder.now) c.answered.result c.in_ok-both.ensures c.answered.ensures.taken
