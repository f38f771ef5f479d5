use Rattle.std.proofs.Common.{◌≡◌, ◌+◌, suc, ◌++◌, ◌∷◌, [], length, ap, sym, ◌∙◌, arith}
use Rattle.source_layouts.specs.LineNumbers.{ends_at, joined_up_to, joined_at}
use Rattle.source_layouts.specs.WordSets.{has}
use Rattle.source_layouts.proofs.LineNumberLemmas.{length_up_to}
use Rattle.source_layouts.proofs.line_numbers.Words.is_joined.Goals as goal

pub loop-place-preserved : goal.loop-place-preserved
loop-place-preserved c =
    let set = has c.args.self.now in
    let text = c.args.text.now in
    let place = c.loop-place.place in
    let next : place + 1 ≡ suc place = omega arith in
    let items : c.push.new.self.items ≡ joined_up_to set text place = c.in_ok-push.ensures.items ∙ c.loop-place.invariant.0 in
    let last : c.ends_at-last.result ≡ joined_at set text (suc place) =
    c.ends_at-last.ensures
    ∙ ap (ends_at set text (place + 1) 0) (c.as_slice.ensures.value ∙ items)
    ∙ ap (λ k. ends_at set text k 0 (joined_up_to set text place)) next in (
      (λ i. items i ++ last i ∷ []) ∙ ap (joined_up_to set text) (sym next),
      last ∙ ap (joined_at set text) (sym next),
      ap length items ∙ length_up_to set text place ∙ sym next,
    )
