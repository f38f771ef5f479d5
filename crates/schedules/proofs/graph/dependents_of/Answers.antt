use Rattle.std.proofs.Common.{◌≡◌, ◌+◌, ◌∷◌, List, ℕ, None, true, length, drop, map, vec_items, sym, ap, ◌∙◌, arith}
use Rattle.std.proofs.lemmas.List.{length-map}
use Rattle.schedules.specs.Entered.{are_below}
use Rattle.schedules.specs.Graphs.{first_late, noted, all_noted}
use Rattle.schedules.proofs.GraphLemmas.{rest_is, early, below_more, length-noted}
use Rattle.schedules.proofs.graph.dependents_of.Goals as goal

pub note-requires : goal.note-requires
note-requires c =
    let n : ℕ = c.loop-number.number in
    let rest : List (List ℕ) = drop (n + 1) (map vec_items c.args.needs.now) in
    let row : drop n (map vec_items c.args.needs.now) ≡ c.index-needs-number.result.items ∷ rest = rest_is vec_items c.args.needs.now n c.index-needs-number.result c.loop-number-test.true c.index-needs-number.is in
    let both : (are_below n c.index-needs-number.result.items ≡ true) × (first_late (n + 1) rest ≡ None) = early n c.index-needs-number.result.items rest (ap (first_late n) (sym row) ∙ c.loop-number.invariant.in_time) in
    below_more n (length c.loop-number.rows.items) c.as_slice.result.now (omega (arith, c.loop-number-test.true, c.loop-number.invariant.as_many)) (ap (are_below n) c.as_slice.ensures.value ∙ both.0)

pub loop-number-preserved : goal.loop-number-preserved
loop-number-preserved c =
    let n : ℕ = c.loop-number.number in
    let rows : List (List ℕ) = map vec_items c.loop-number.rows.items in
    let rest : List (List ℕ) = drop (n + 1) (map vec_items c.args.needs.now) in
    let row : drop n (map vec_items c.args.needs.now) ≡ c.index-needs-number.result.items ∷ rest = rest_is vec_items c.args.needs.now n c.index-needs-number.result c.loop-number-test.true c.index-needs-number.is in
    let both : (are_below n c.index-needs-number.result.items ≡ true) × (first_late (n + 1) rest ≡ None) = early n c.index-needs-number.result.items rest (ap (first_late n) (sym row) ∙ c.loop-number.invariant.in_time) in
    let now : map vec_items c.note.new.rows.items ≡ noted n rows c.index-needs-number.result.items = c.in_ok-note.ensures ∙ ap (noted n rows) c.as_slice.ensures.value in
    record {
      as_many = sym (length-map c.note.new.rows.items vec_items) ∙ ap length now ∙ length-noted n rows c.index-needs-number.result.items ∙ length-map c.loop-number.rows.items vec_items ∙ c.loop-number.invariant.as_many;
      in_time = both.1;
      noted_is = ap (λ r. all_noted (n + 1) r rest) now ∙ ap (all_noted n rows) (sym row) ∙ c.loop-number.invariant.noted_is;
    }
