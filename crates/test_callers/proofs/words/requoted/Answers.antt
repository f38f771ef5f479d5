-- Quoted words are split into themselves.
use Rattle.std.proofs.Common.{◌∙◌, ap, sym, map, Some, encode_utf8_all, option_map, chars}
use Rattle.std.proofs.lemmas.Result.{IfOk-weaker}
use Rattle.cuda_plans.specs.Shell.Splitting.{split_chars}
use Rattle.test_callers.proofs.WordLemmas.{same_bytes}
use Rattle.test_callers.proofs.words.requoted.Goals as goal

pub returns : goal.returns
returns c =
    let text = ap (λ t. option_map (map encode_utf8_all) (split_chars (chars t))) c.as_str.ensures.value in
    let words = ap (option_map (map encode_utf8_all)) c.in_ok-text.ensures.value ∙ ap Some (sym (same_bytes c.args.words.now)) in
    IfOk-weaker c.split.result _ _ (λ found is. is ∙ text ∙ words) c.split.ensures.value
