-- The splitter has read all of the text.
use Rattle.std.proofs.Common.{◌≡◌, ◌∙◌, map, string_bytes, encode_utf8_all, option_map, chars, arith}
use Rattle.std.proofs.lemmas.Result.{IfOk-weaker}
use Rattle.std.proofs.lemmas.Grind.{common_steps}
use Rattle.texts.specs.Shell.Splitting.{split_chars, finished}
use Rattle.texts.proofs.ShellSplittingLemmas.{finished_is}
use Rattle.texts.proofs.ShellSpanLemmas.{empty_chars}
use Rattle.texts.proofs.ShellCompleteLemmas.{words_from_value}
use Rattle.texts.proofs.shell.splitting.split.Goals as goal
use Rattle.texts.proofs.shell.splitting.split.Goals.{After-finish}

finished_words : (c : After-finish) → finished c.loop-rest.splitter ≡ option_map (map encode_utf8_all) (split_chars (chars c.args.text.now))
finished_words c = grind (arith, common_steps, empty_chars, finished_is)

pub returns-clause-words : goal.returns-clause-words
returns-clause-words c =
    IfOk-weaker c.finish.result _ _ (λ found is. words_from_value (λ v. map string_bytes v.items) c.args.text.now found (is ∙ finished_words c)) c.finish.ensures

pub returns-clause-value : goal.returns-clause-value
returns-clause-value c = IfOk-weaker c.finish.result _ _ (λ found is. is ∙ finished_words c) c.finish.ensures
