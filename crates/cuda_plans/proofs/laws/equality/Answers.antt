-- `==` on places says whether they are equal.
use Rattle.std.proofs.Common.{ap}
use Rattle.std.proofs.lemmas.Bool.Decides.{Decides-like}
use Rattle.cuda_plans.specs.declared.runner.Answer.TheVariants.{Ran, Finished, Failed}
use Rattle.cuda_plans.proofs.laws.equality.Goals as goal

pub returns-clause-answer : goal.returns-clause-answer
returns-clause-answer c (Ran x) (Ran y) = Decides-like _ (ap Ran) (λ e. cc) (c.equality.ensures.output x y)
returns-clause-answer c (Ran x) (Finished y) = (λ e. cc, λ e. cc)
returns-clause-answer c (Ran x) (Failed y) = (λ e. cc, λ e. cc)
returns-clause-answer c (Finished x) (Ran y) = (λ e. cc, λ e. cc)
returns-clause-answer c (Finished x) (Finished y) = Decides-like _ (ap Finished) (λ e. cc) (c.equality.ensures.finished x y)
returns-clause-answer c (Finished x) (Failed y) = (λ e. cc, λ e. cc)
returns-clause-answer c (Failed x) (Ran y) = (λ e. cc, λ e. cc)
returns-clause-answer c (Failed x) (Finished y) = (λ e. cc, λ e. cc)
returns-clause-answer c (Failed x) (Failed y) = Decides-like _ (ap Failed) (λ e. cc) (c.equality.ensures.fault x y)
