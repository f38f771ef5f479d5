use Rattle.std.proofs.Common.{refl}
use Rattle.std.specs.Str.{chars, is_utf8}
use Rattle.plan_texts.proofs.laws.worked_scripts.Goals as goal

pub returns : goal.returns
unfolding chars is_utf8 lib.Utf8.encode
returns c = record { line_of_cicc = refl; bare_characters = (refl, refl); dash_refused = refl; newline_held = refl; newline_refused = refl }
