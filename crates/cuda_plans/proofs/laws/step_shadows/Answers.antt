use Rattle.std.proofs.Common.{refl}
use Rattle.cuda_plans.proofs.ShadowLemmas.{plain-outputs_stay_apart}
use Rattle.cuda_plans.proofs.ShadowRankLemmas.{shadow-is_step_shadow, step-names_keep_rank}
use Rattle.cuda_plans.proofs.laws.step_shadows.Goals as goal

pub returns : goal.returns
returns c = record { implied = shadow-is_step_shadow; ranks = step-names_keep_rank; outputs = plain-outputs_stay_apart; worked = (refl, refl, refl, refl); one_kernel = (refl, refl) }
