use Rattle.early_starts.proofs.SplitLemmas.{ends-plan, compilers-words, assemblers-words, halves-touch}
use Rattle.early_starts.proofs.LateNeedLemmas.{others-need-the-same, assembler-needs-all}
use Rattle.early_starts.proofs.late_laws.splits.Goals as goal

pub returns : goal.returns
returns c = record {
  plans = ends-plan;
  compiler = compilers-words;
  assembler = assemblers-words;
  files = halves-touch;
  others = others-need-the-same;
  all = assembler-needs-all;
}
