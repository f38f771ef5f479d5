use Rattle.std.proofs.Common.{refl}
use Rattle.std.specs.Str.{chars, is_utf8}
use Rattle.rooted_commands.proofs.laws.worked_texts.Goals as goal

pub returns : goal.returns
unfolding chars is_utf8 lib.Utf8.encode
returns c = record { names = refl; raw_strings = refl; doubtful = refl }
