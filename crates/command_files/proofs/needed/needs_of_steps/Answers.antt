use Rattle.std.proofs.Common.{◌≡◌, ◌∷◌, [], map, vec_items, subst, sym, ap, ◌∙◌, arith}
use Rattle.std.proofs.lemmas.List.{map-append}
use Rattle.command_files.specs.PlanNeeds.{step_needs}
use Rattle.command_files.specs.Order.{needs_by}
use Rattle.command_files.specs.Touched.{read_by, written_by, with_numbers, gathered, numbers_for, SameElements}
use Rattle.command_files.proofs.NeededLemmas.{found, listed, next, grown, one_later, all_gathered}
use Rattle.command_files.proofs.needed.needs_of_steps.Goals as goal

pub loop-number-preserved : goal.loop-number-preserved
loop-number-preserved c =
    let steps = c.args.steps.now in
    let n = c.loop-number.number in
    let s = c.index-steps-number.result in
    let told = c.loop-number.invariant in
    let one_more = grown steps n s c.loop-number-test.true c.index-steps-number.is in
    let is : c.in_ok-gathered.field-0.items ≡ all_gathered steps n s =
    c.in_ok-gathered.ensures.numbers ∙ (λ i. gathered (told.0 i) (told.1 i) ((c.numbers_for-others.ensures ∙ (λ j. numbers_for (told.2 j) (told.3 j) s.role)) i) n s) in
    let numbers = c.each_once.result.items in
    let right = found s steps n s numbers (omega (arith, c.loop-number-test.true)) one_more c.each_once.ensures.rises (subst (λ g. SameElements g numbers) is c.each_once.ensures.same) in (
      c.in_ok-gathered.ensures.readers ∙ ap (λ r. with_numbers r (read_by s) n) told.0 ∙ sym (one_later read_by steps n s (omega (arith, c.loop-number-test.true)) one_more),
      c.in_ok-gathered.ensures.writers ∙ ap (λ r. with_numbers r (written_by s) n) told.1 ∙ sym (one_later written_by steps n s (omega (arith, c.loop-number-test.true)) one_more),
      told.2,
      told.3,
      listed steps n s (map vec_items c.loop-number.needs.items) (map vec_items c.push.new.self.items) (needs_by step_needs steps) numbers
          (next steps n s c.loop-number-test.true c.index-steps-number.is) one_more right
          (ap (map vec_items) c.in_ok-push.ensures.items ∙ map-append vec_items c.loop-number.needs.items (c.each_once.result ∷ []))
          told.4,
    )
