use Rattle.std.proofs.Common.{Some, ◌∙◌, ap, sym}
use Rattle.dry_runs.proofs.PlainWordLemmas.{plain-words}
use Rattle.dry_runs.proofs.plain_words.words_of.Goals as goal

pub returns-then-is_plain : goal.returns-then-is_plain
returns-then-is_plain c = ap Some c.in_ok-cut_at_spaces.ensures ∙ plain-words c.args.text.now c.utf8.text (sym c.is_plain.ensures ∙ c.if-is_plain.true)
