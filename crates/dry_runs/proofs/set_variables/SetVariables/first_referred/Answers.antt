use Rattle.std.proofs.Common.{rules}
use Rattle.dry_runs.proofs.PlaceLemmas.{first-goes-on, first-at-start, first-at-end}
use Rattle.dry_runs.proofs.set_variables.SetVariables.first_referred.Goals as goal

pub returns-then-place-from : goal.returns-then-place-from
returns-then-place-from c =
    let env = c.args.self.now in
    let text = c.args.text.now in
    let after = c.in-Some.after.now in
    let on = first-goes-on env c.args.from text c.loop-after.rest.now c.in-Some.field-0-0.now after c.loop-after.place c.first_place-place.result c.loop-after.invariant.1 c.in-Some.ensures.cut.0 c.in-Some.ensures.cut.1 c.first_place-place.ensures in
    first-at-start env c.args.from text after c.first_place-place.result on c.if-place-from.true

pub loop-after-preserved : goal.loop-after-preserved
loop-after-preserved c = (
  search rules,
  first-goes-on c.args.self.now c.args.from c.args.text.now c.loop-after.rest.now c.in-Some.field-0-0.now c.in-Some.after.now c.loop-after.place c.first_place-place.result c.loop-after.invariant.1 c.in-Some.ensures.cut.0 c.in-Some.ensures.cut.1 c.first_place-place.ensures,
)

pub returns : goal.returns
returns c = first-at-end c.args.self.now c.args.from c.args.text.now c.loop-after.rest.now c.loop-after.place c.loop-after.invariant.1 c.in_default.ensures.cut
