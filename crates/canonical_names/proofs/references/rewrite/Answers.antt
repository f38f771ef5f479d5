use Rattle.std.proofs.Common.{◌≡◌, ◌-◌, map, ap, sym, ◌∙◌, length, arith, string_bytes}
use Rattle.texts.specs.Variables.{pair_of}
use Rattle.canonical_names.specs.Counted.{old_names}
use Rattle.canonical_names.specs.References.{replaced_by_all, longest_pairs_first, longest_in}
use Rattle.canonical_names.proofs.LengthLemmas.{up_to, longest-begun, longest-bound, longest-next, longest-replaced, longest-done}
use Rattle.canonical_names.proofs.references.rewrite.Goals as goal

pub loop-longest-init : goal.loop-longest-init
loop-longest-init c =
    let pairs = map pair_of c.args.names.now.entries in
    let text = c.args.text.now in
    ap (λ n. replaced_by_all (longest_pairs_first (up_to n pairs)) (string_bytes c.in_ok-new.new)) c.longest_in-longest.ensures
    ∙ ap (replaced_by_all (longest_pairs_first (up_to (longest_in text (length text) (old_names pairs)) pairs))) c.in_ok-new.ensures.ok
    ∙ sym (longest-next text (length text) pairs) ∙ sym (longest-begun pairs text)

pub loop-longest-smaller : goal.loop-longest-smaller
loop-longest-smaller c = grind (arith, longest-bound)

pub loop-longest-preserved : goal.loop-longest-preserved
loop-longest-preserved c =
    let pairs = map pair_of c.args.names.now.entries in
    let k = c.loop-longest.longest in
    let before = string_bytes c.loop-longest.new in
    let after = string_bytes c.in_ok-new-2.new in
    let told : c.longest_in-longest-in-loop-longest.result ≡ longest_in after (k - 1) (old_names pairs) =
    c.longest_in-longest-in-loop-longest.ensures ∙ ap (λ t. longest_in t (k - 1) (old_names pairs)) c.as_str.ensures.value in
    ap (λ n. replaced_by_all (longest_pairs_first (up_to n pairs)) after) told ∙ sym (longest-next after (k - 1) pairs)
    ∙ ap (replaced_by_all (longest_pairs_first (up_to (k - 1) pairs))) c.in_ok-new-2.ensures
    ∙ sym (longest-replaced k c.loop-longest-test.true pairs before) ∙ c.loop-longest.invariant

pub returns : goal.returns
returns c =
    let pairs = map pair_of c.args.names.now.entries in
    let text = string_bytes c.loop-longest.new in
    sym (longest-done pairs text c.requires) ∙ ap (λ n. replaced_by_all (longest_pairs_first (up_to n pairs)) text) (sym (omega (arith, c.loop-longest-test.false))) ∙ c.loop-longest.invariant
