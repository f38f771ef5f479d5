use Rattle.std.proofs.Common.{refl}
use Rattle.canonical_names.specs.AlikeExamples as examples
use Rattle.canonical_names.proofs.laws.worked_likeness.Goals as goal

pub returns : goal.returns
returns c = record {
  one_kernel_is_clean = refl;
  reference_is_not_clean = refl;
  one_kernel_is_alike = examples.one_kernel_is_alike;
  other_pattern_is_not_alike = examples.other_pattern_is_not_alike;
}
