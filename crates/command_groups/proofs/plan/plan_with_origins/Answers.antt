use Rattle.std.specs.Option.{option_copied}
use Rattle.command_groups.specs.Views.{call_seen}
use Rattle.command_groups.proofs.PlanLemmas.{parsed_is_planned}
use Rattle.command_groups.proofs.plan.plan_with_origins.Goals as goal

pub returns : goal.returns
returns g c =
    let call = c.args.call.now in
    parsed_is_planned call.suffixes.now (option_copied call.keep_dir) (call_seen call) (g.W.Which.answer c.args.which.now) c.args.dry1.now c.args.dry2.now
    c.in_ok-runs.runs c.plan_of_parsed.result c.in_ok-runs.ensures c.plan_of_parsed.ensures
