use Rattle.std.proofs.Common.{◌≡◌, ◌∙◌, ap, IfOk, subst}
use Rattle.dry_runs.specs.Limit.{stated_marked_within}
use Rattle.dry_runs.proofs.ParsedLemmas.{same-within, within-no_text, within-text}
use Rattle.dry_runs.proofs.statement.statement_within.Goals as goal

pub returns-in-Err : goal.returns-in-Err
returns-in-Err c = within-no_text c.args.left c.args.env.now c.args.line.now c.in-Err.ensures.cases.0

pub returns-in-None : goal.returns-in-None
returns-in-None c =
    ap (stated_marked_within c.args.left c.args.env.now) c.in-None.ensures
    ∙ same-within c.args.left c.args.env.now c.in-Ok.text.now c.args.line.now c.in-Ok.ensures.cases.0 c.in-Ok.ensures.cases.1

pub returns-in-Some : goal.returns-in-Some
returns-in-Some c =
    within-text c.args.left c.args.env.now c.in-Ok.text.now c.args.line.now c.marked_line.result c.in-Ok.ensures.cases.0 c.in-Ok.ensures.cases.1
    (subst (λ o. IfOk c.marked_line.result (λ s. s ≡ stated_marked_within c.args.left c.args.env.now o)) c.in-Some.ensures c.marked_line.ensures)
