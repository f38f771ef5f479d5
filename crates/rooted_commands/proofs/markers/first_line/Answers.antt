use Rattle.std.proofs.Common.{◌∷◌, ap, sym, ◌∙◌, drop, take, arith}
use Rattle.rooted_commands.specs.Markers as spec
use Rattle.rooted_commands.proofs.LineLemmas.{cut-first, has-byte}
use Rattle.rooted_commands.proofs.markers.first_line.Goals as goal

pub returns-else-is_empty-clause-cut : goal.returns-else-is_empty-clause-cut
returns-else-is_empty-clause-cut c =
    let some = sym c.is_empty.ensures ∙ c.if-is_empty.false in
    let front = c.split_at.ensures.front ∙ ap (λ n. take n c.args.text.now) c.line_length.ensures.value in
    let back = c.split_at.ensures.back ∙ ap (λ n. drop n c.args.text.now) c.line_length.ensures.value in
    cut-first c.args.text.now some ∙ sym (λ i. front i ∷ spec.lines_of (back i))

pub returns-else-is_empty-clause-less : goal.returns-else-is_empty-clause-less
returns-else-is_empty-clause-less c =
    let some = sym c.is_empty.ensures ∙ c.if-is_empty.false in
    let first = has-byte c.args.text.now some in
    let left = c.split_at.ensures.back_len in
    let value = c.line_length.ensures.value in
    grind arith
