-- What is written is read back.
use Rattle.std.proofs.Common.{◌≡◌, arith, map, string_bytes, encode_utf8_all, chars}
use Rattle.std.proofs.lemmas.Grind.{common_steps}
use Rattle.texts.specs.Shell.Quoting.{quoted}
use Rattle.texts.proofs.ShellQuotingLemmas.{quoted_has_words, quoted_value}
use Rattle.texts.proofs.shell.quoting.quote.Goals as goal

pub returns-clause-words : goal.returns-clause-words
returns-clause-words c =
    let written : string_bytes c.if-words-lt1.text ≡ encode_utf8_all (quoted (map chars (map string_bytes c.args.words.now))) = grind (arith, common_steps) in
    quoted_has_words c.args.words.now c.if-words-lt1.text written

pub returns-clause-value : goal.returns-clause-value
returns-clause-value c = grind (arith, common_steps, quoted_value)
