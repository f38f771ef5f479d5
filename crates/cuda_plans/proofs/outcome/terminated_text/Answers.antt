use Rattle.std.proofs.Common.{◌≡◌, ◌++◌, ◌∙◌, ap, string_bytes, subst, codes, w32, IfOk}
use Rattle.std.proofs.lemmas.Int.{to_z-of_z}
use Rattle.cuda_plans.specs.Outcome.{signed_numeral}
use Rattle.cuda_plans.proofs.outcome.terminated_text.Goals as goal

pub returns : goal.returns
returns c =
    let number = string_bytes c.in_ok-number.number in
    let numbered : number ≡ signed_numeral c.args.signal = c.in_ok-number.ensures.numeral ∙ ap signed_numeral (to_z-of_z w32 c.args.signal c.ranges.signal) in
    subst (λ t. IfOk c.format.result (λ text. string_bytes text ≡ t)) (λ i. c.program_name-name.ensures i ++ (codes " terminated (signal: " ++ (numbered i ++ codes ")"))) c.format.ensures.ok
