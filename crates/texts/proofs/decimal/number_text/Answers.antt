use Rattle.std.proofs.Common.{◌≡◌, string_bytes, subst, IfOk}
use Rattle.texts.proofs.NumeralLemmas.{decimal-numeral}
use Rattle.texts.proofs.decimal.number_text.Goals as goal

pub returns : goal.returns
returns c = subst (λ digits. IfOk c.format.result (λ text. string_bytes text ≡ digits)) (decimal-numeral c.args.number c.ranges.number.fits) c.format.ensures.ok
