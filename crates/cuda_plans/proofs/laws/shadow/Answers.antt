use Rattle.cuda_plans.proofs.ShadowLawLemmas.{shadows_stand_together}
use Rattle.cuda_plans.proofs.laws.shadow.Goals as goal

pub returns : goal.returns
returns c = record { stand_together = shadows_stand_together }
