use Rattle.command_groups.proofs.PlanLemmas.{alike_pairs_have_one_plan, alike_texts_have_one_plan}
use Rattle.command_groups.proofs.laws.plans.Goals as goal

pub returns : goal.returns
returns c = record { alike_pairs = alike_pairs_have_one_plan; alike_texts = alike_texts_have_one_plan }
