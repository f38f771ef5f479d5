-- What is compared at once, in each state that has spans.
use Rattle.std.proofs.Common.{◌≡◌, sym, subst}
use Rattle.std.specs.List.{position_or_len}
use Rattle.std.proofs.lemmas.Simd.{length-chunk}
use lib.Lanes.{chunk}
use Rattle.texts.specs.declared.shell.splitting.State.TheVariants.{Word, SingleQuoted, DoubleQuoted}
use Rattle.texts.specs.Shell.Splitting.{ends_span}
use Rattle.texts.proofs.SpanRunLemmas.{either_marks, equal_marks, first_mark}
use Rattle.texts.proofs.shell.span.run_at.Goals as goal

pub returns-in-Word : goal.returns-in-Word
returns-in-Word c =
    let v = chunk c.args.at 16 c.args.text.now in
    let long = length-chunk c.args.at 16 c.args.text.now c.requires in
    subst (λ s. c.first_set.result ≡ position_or_len (ends_span s) v) (sym c.in-Word.is)
    (first_mark (ends_span Word) v _ long
    (either_marks _ _ v (either_marks _ _ v (either_marks _ _ v (either_marks _ _ v (either_marks _ _ v (equal_marks 32 v long) (equal_marks 9 v long)) (equal_marks 10 v long)) (equal_marks 39 v long)) (equal_marks 34 v long)) (equal_marks 92 v long))
    c.first_set.ensures)

pub returns-in-SingleQuoted : goal.returns-in-SingleQuoted
returns-in-SingleQuoted c =
    let v = chunk c.args.at 16 c.args.text.now in
    let long = length-chunk c.args.at 16 c.args.text.now c.requires in
    subst (λ s. c.first_set-in-SingleQuoted.result ≡ position_or_len (ends_span s) v) (sym c.in-SingleQuoted.is)
    (first_mark (ends_span SingleQuoted) v _ long (equal_marks 39 v long) c.first_set-in-SingleQuoted.ensures)

pub returns-in-DoubleQuoted : goal.returns-in-DoubleQuoted
returns-in-DoubleQuoted c =
    let v = chunk c.args.at 16 c.args.text.now in
    let long = length-chunk c.args.at 16 c.args.text.now c.requires in
    subst (λ s. c.first_set-in-DoubleQuoted.result ≡ position_or_len (ends_span s) v) (sym c.in-DoubleQuoted.is)
    (first_mark (ends_span DoubleQuoted) v _ long (either_marks _ _ v (equal_marks 34 v long) (equal_marks 92 v long)) c.first_set-in-DoubleQuoted.ensures)
