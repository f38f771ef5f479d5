use Rattle.std.proofs.Common.{arith, ap, sym, ◌∙◌}
use Rattle.std.proofs.lemmas.List.{take_rest}
use Rattle.dry_run_pairs.specs.Names.{after_beginning}
use Rattle.dry_run_pairs.proofs.NameLemmas.{last-next, within-next}
use Rattle.dry_run_pairs.proofs.names.after_last.Goals as goal

pub loop-at-preserved : goal.loop-at-preserved
loop-at-preserved c = (
  last-next c.args.name.now c.loop-at.at c.after_beginning.result c.loop-at.found c.or-found.result (omega arith) (sym c.opens_name.ensures ∙ c.if-opens_name.false)
      (c.after_beginning.ensures.rest ∙ ap after_beginning (take_rest c.args.name.now c.loop-at.at)) c.or-found.ensures c.loop-at.invariant.0,
  within-next c.args.name.now c.loop-at.at c.after_beginning.result c.loop-at.found c.or-found.result c.or-found.ensures c.after_beginning.ensures.less c.loop-at.invariant.1,
)
