use Rattle.std.proofs.Common.{◌≡◌, IfOk, subst}
use Rattle.dry_runs.specs.Environment.{assignment}
use Rattle.dry_runs.proofs.ParsedLemmas.{marked-command}
use Rattle.dry_runs.proofs.statement.marked_line.Goals as goal

pub returns-in-None : goal.returns-in-None
returns-in-None c =
    subst (λ q. IfOk c.command.result (λ s. s ≡ q))
    (marked-command c.args.left c.args.env.now c.args.text.now (assignment c.args.text.now) c.in-None.ensures) c.command.ensures
