use Rattle.std.proofs.Common.{sym, ◌∙◌}
use Rattle.texts.proofs.PathLemmas.{empty-length, some-length, unsplit-lacks, split-text, folder-lacking, folder-root, folder-below}
use Rattle.texts.proofs.text.folder.Goals as goal

pub returns-in_default : goal.returns-in_default
returns-in_default c = sym (folder-lacking c.args.path.now (unsplit-lacks 47 c.args.path.now c.in_default.ensures))

pub returns-then-is_empty : goal.returns-then-is_empty
returns-then-is_empty c =
    let parts = split-text 47 c.args.path.now c.in-Some.front.now _ c.in-Some.ensures in
    sym (folder-root c.args.path.now c.in-Some.front.now _ parts.0 parts.1 (empty-length c.in-Some.front.now (sym c.is_empty.ensures ∙ c.if-is_empty.true)))

pub returns-else-is_empty : goal.returns-else-is_empty
returns-else-is_empty c =
    let parts = split-text 47 c.args.path.now c.in-Some.front.now _ c.in-Some.ensures in
    c.trim.ensures ∙ sym (folder-below c.args.path.now c.in-Some.front.now _ parts.0 parts.1 (some-length c.in-Some.front.now (sym c.is_empty.ensures ∙ c.if-is_empty.false)))
