use Rattle.std.proofs.Common.{arith, ap, sym, ◌∙◌, option_copied}
use Rattle.std.proofs.lemmas.List.{take_rest}
use Rattle.std.proofs.lemmas.Grind.{common_steps}
use Rattle.texts.specs.Lists.{rest_after}
use Rattle.dry_run_pairs.proofs.CutLemmas.{cut-here, cut-on}
use Rattle.dry_run_pairs.proofs.cuts.cut.Goals as goal

pub returns-in-Some : goal.returns-in-Some
returns-in-Some c = grind (arith, common_steps, take_rest, cut-here)

pub loop-at-preserved : goal.loop-at-preserved
loop-at-preserved c =
    cut-on c.args.mark.now c.args.text.now c.loop-at.at (omega arith) c.loop-at.invariant
    (ap (rest_after c.args.mark.now) (sym (take_rest c.args.text.now c.loop-at.at)) ∙ sym c.behind.ensures.rest ∙ ap option_copied c.in_default.is)
