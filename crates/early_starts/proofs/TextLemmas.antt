-- What stripping a beginning answers.
use Rattle.std.proofs.Common.{◌≡◌, ℕ, ◌+◌, true, false, nat_eq, List, Option, Some, None, MatchOption, Bor, length, take, drop, option_copied, ap, sym, ◌∙◌}
use Rattle.std.specs.Cmp.Lexicographic.{pointwise}
use Rattle.std.proofs.lemmas.Bool.Decides.{Decides-eqb}
use Rattle.std.proofs.lemmas.Slice.Eq.{strip_prefix_is}
use Rattle.texts.specs.Lists.{rest_after}
use Rattle.texts.proofs.RestLemmas.{rest_after-append, rest_after-none}

pub stripped : (beginning text : List ℕ) (r : Option (Bor (List ℕ)))
    → MatchOption r (pointwise nat_eq (take (length beginning) text) beginning ≡ false)
    (λ rest. (pointwise nat_eq (take (length beginning) text) beginning ≡ true) × (rest.now ≡ drop (length beginning) text) × (length rest.now + length beginning ≡ length text))
    → option_copied r ≡ rest_after beginning text
stripped beginning text None h = sym (rest_after-none beginning text (strip_prefix_is (λ a b. Decides-eqb a b) text beginning None h))
stripped beginning text (Some rest) h =
    sym (ap (rest_after beginning) (strip_prefix_is (λ a b. Decides-eqb a b) text beginning (Some rest) h) ∙ rest_after-append beginning rest.now)
