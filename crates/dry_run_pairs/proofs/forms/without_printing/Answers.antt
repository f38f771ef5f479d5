use Rattle.std.proofs.Common.{arith, ap, sym, ◌∙◌}
use Rattle.std.proofs.lemmas.List.{take_rest}
use Rattle.dry_run_pairs.specs.Forms.{is_printing}
use Rattle.dry_run_pairs.proofs.FormLemmas.{printing-here, printing-on}
use Rattle.dry_run_pairs.proofs.forms.without_printing.Goals as goal

pub returns-then-is_printing : goal.returns-then-is_printing
returns-then-is_printing c =
    printing-here c.args.line.now c.loop-at.at (omega arith) c.loop-at.invariant
    (ap is_printing (sym (take_rest c.args.line.now c.loop-at.at)) ∙ sym c.is_printing.ensures ∙ c.if-is_printing.true)

pub loop-at-preserved : goal.loop-at-preserved
loop-at-preserved c =
    printing-on c.args.line.now c.loop-at.at (omega arith) c.loop-at.invariant
    (ap is_printing (sym (take_rest c.args.line.now c.loop-at.at)) ∙ sym c.is_printing.ensures ∙ c.if-is_printing.false)
