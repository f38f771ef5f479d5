use Rattle.std.proofs.Common.{List, map, sym, subst, option_copied}
use Rattle.compilers.specs.CommandLines.{CommandLine, line_of}
use Rattle.command_groups.specs.MergeLaws.{Rises}
use Rattle.command_groups.proofs.PlanLemmas.{named_rises}
use Rattle.command_groups.proofs.plan.plan_of_dry_runs.Goals as goal

pub merge-requires-clause-first_rises : goal.merge-requires-clause-first_rises
merge-requires-clause-first_rises c =
    subst (λ (cs : List CommandLine). Rises (map line_of cs)) (sym c.in_ok-first.ensures) (named_rises c.args.call.now.suffixes.now (option_copied c.args.call.now.keep_dir) c.args.first.commands c.requires.first_rises)

pub merge-requires-clause-second_rises : goal.merge-requires-clause-second_rises
merge-requires-clause-second_rises c =
    subst (λ (cs : List CommandLine). Rises (map line_of cs)) (sym c.in_ok-second.ensures) (named_rises c.args.call.now.suffixes.now (option_copied c.args.call.now.keep_dir) c.args.second.commands c.requires.second_rises)
