use Rattle.std.proofs.Common.{true}
use Rattle.source_layouts.proofs.WordSetLemmas.{set_updates}
use Rattle.source_layouts.proofs.line_numbers.Words.add.Goals as goal

pub returns : goal.returns
returns c = λ i word. set_updates c.args.self.now.words c.insert.new.self c.args.word true c.in_ok-insert.ensures.updates word i
