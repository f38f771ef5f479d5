use Rattle.texts.proofs.NumeralLemmas.{decimal-numeral}
use Rattle.plan_texts.proofs.ninja.push_stamp.Goals as goal

pub returns : goal.returns
returns c = rw (decimal-numeral c.args.group c.ranges.group.fits, decimal-numeral c.args.place c.ranges.place.fits) at c.write.ensures.bytes
