use Rattle.std.proofs.Common.{◌≡◌, OnOk, string_bytes, subst, codes}
use Rattle.texts.specs.Numeral.{numeral}
use Rattle.plan_texts.specs.Graph.{comment_words}
use Rattle.texts.proofs.PushedLemmas.{pushed-parts}
use Rattle.plan_texts.proofs.ninja.push_comment.Goals as goal

pub returns : goal.returns
returns c =
    let d = c.args.dropped.now in
    subst (λ t. OnOk c.push_comment_words.result (string_bytes c.push_comment_words.new.text ≡ t))
    (pushed-parts _ _ _ _ _ (codes "# dropped line ") (numeral d.line) (codes " run ") (numeral d.run) (comment_words d)
    c.in_ok-push_str.ensures.bytes c.in_ok-push_number.ensures.ok c.in_ok-push_str-2.ensures.bytes c.in_ok-push_number-2.ensures.ok)
    c.push_comment_words.ensures
