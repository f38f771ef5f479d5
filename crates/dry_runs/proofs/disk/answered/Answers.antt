use Rattle.std.proofs.Common.{sym, ◌∙◌, arith}
use Rattle.std.proofs.lemmas.List.{nil_from_length}
use Rattle.std.proofs.lemmas.Grind.{common_steps}
use Rattle.dry_runs.proofs.SnapshotLemmas.{taken-all, taken-snapshot}
use Rattle.dry_runs.proofs.disk.answered.Goals as goal

pub returns-clause-taken : goal.returns-clause-taken
returns-clause-taken g c = grind (arith, common_steps, taken-all, nil_from_length)

pub returns-clause-tried : goal.returns-clause-tried
returns-clause-tried g c =
    let rest = c.loop-lookup.lookup-iterator.rest in
    taken-snapshot (goal.F-post g c.args.runs.now) c.args.lookups.items c.new.result
    (taken-all (goal.F-post g c.args.runs.now) c.args.lookups.items rest.items c.loop-lookup.entries.items c.new.result (nil_from_length _ (sym rest.ok.0 ∙ c.in-None.ensures.steps.0)) c.new.ensures c.loop-lookup.invariant)
