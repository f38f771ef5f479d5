-- The words of the text are computed.
use Rattle.std.proofs.Common.{◌≡◌, ◌∙◌, [], ◌∷◌, map, Some, codes, encode_utf8_all, refl, option_map}
use Rattle.std.specs.Str.{chars, is_utf8}
use Rattle.std.proofs.lemmas.Result.{IfOk-weaker}
use Rattle.cuda_plans.specs.Shell.Splitting.{split_chars}
use Rattle.test_callers.proofs.words.known_flags.Goals as goal

words : option_map (map encode_utf8_all) (split_chars (chars (codes "-O2 '-DNAME=a b' # as a shell reads them"))) ≡ Some (codes "-O2" ∷ codes "-DNAME=a b" ∷ [])
unfolding chars is_utf8 lib.Utf8.encode
words = refl

pub returns : goal.returns
returns c = IfOk-weaker c.split.result _ _ (λ found is. is ∙ words) c.split.ensures.value
