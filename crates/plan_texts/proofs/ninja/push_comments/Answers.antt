use Rattle.std.proofs.Common.{◌+◌, ◌++◌, string_bytes, drop, sym, ap, ◌∙◌, flat_map}
use Rattle.plan_texts.specs.Graph.{comment}
use Rattle.texts.proofs.PushedLemmas.{pushed, next-left}
use Rattle.plan_texts.proofs.ninja.push_comments.Goals as goal

pub loop-command-preserved : goal.loop-command-preserved
loop-command-preserved c =
    let commands = c.args.dropped.now in
    let i = c.loop-command.command-index in
    let before = string_bytes c.loop-command.text in
    pushed before (comment c.command-item.result) (string_bytes c.push_comment.new.text) (flat_map comment (drop (i + 1) commands)) c.in_ok-push_comment.ensures
    ∙ ap (λ cs. before ++ flat_map comment cs) (sym (next-left commands i c.command-item.result c.loop-command-test.true c.command-item.is))
    ∙ c.loop-command.invariant
