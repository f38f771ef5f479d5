use Rattle.std.proofs.Common.{refl}
use Rattle.std.specs.Str.{chars, is_utf8}
use Rattle.plan_texts.proofs.laws.worked_exports.Goals as goal

pub returns : goal.returns
unfolding chars is_utf8 lib.Utf8.encode
returns c = record { edge_of_cicc = refl; edges_of_fatbin = refl }
