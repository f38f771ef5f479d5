use Rattle.cuda_plans.proofs.ShadowLawLemmas.{step_shadows_stand_together}
use Rattle.cuda_plans.proofs.laws.step_shadow.Goals as goal

pub returns : goal.returns
returns c = record { stand_together = step_shadows_stand_together }
