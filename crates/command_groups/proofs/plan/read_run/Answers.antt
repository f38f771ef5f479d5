use Rattle.std.proofs.Common.{ℕ, List, [], map, Result, Ok, Err, IfOk}
use Rattle.compilers.specs.declared.dry_run.DryRun.{DryRun}
use Rattle.dry_runs.specs.declared.limit.LimitedFault.{LimitedFault}
use Rattle.compilers.specs.CommandLines.{line_of}
use Rattle.dry_runs.specs.DryRun.{LookUp, dry_run_of}
use Rattle.dry_runs.specs.DryRunLines.{numbered_lines}
use Rattle.dry_runs.specs.Limit.{UnlessMemoryWithin, first_too_long, dry_run_within}
use Rattle.dry_runs.specs.Reading.{run_seen, dry_run_seen_within}
use Rattle.dry_runs.proofs.ParsedLemmas.{unlimited}
use Rattle.command_groups.specs.MergeLaws.{Rises}
use Rattle.command_groups.proofs.PlanLemmas.{dry_run_rises}
use Rattle.command_groups.proofs.plan.read_run.Goals as goal

read_rises : (limit run : ℕ) (bytes cwd : List ℕ) (which : LookUp) (read : Result DryRun LimitedFault) → UnlessMemoryWithin (dry_run_seen_within read) (dry_run_within limit run bytes cwd which) → IfOk read (λ said. Rises (map line_of said.commands))
read_rises limit run bytes cwd which (Ok said) e =
    dry_run_rises run bytes cwd which (run_seen said)
    (unlimited run (first_too_long which run cwd limit [] (numbered_lines bytes)) (dry_run_of run bytes cwd which) (run_seen said) e)
read_rises limit run bytes cwd which (Err fault) e = tt

pub returns-clause-rises : goal.returns-clause-rises
returns-clause-rises g c = read_rises c.args.limit c.args.run c.args.dry_run.now c.args.cwd.now (g.W.Which.answer c.args.which.now) c.read_dry_run_within.result c.read_dry_run_within.ensures
