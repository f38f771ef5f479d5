-- Marks at the beginning of bytes.
use Rattle.std.proofs.Common.{◌≡◌, ℕ, ◌+◌, true, false, nat_eq, List, Option, Some, None, MatchOption, Bor, length, take, drop, option_copied, ap, sym, ◌∙◌}
use Rattle.std.specs.Cmp.Lexicographic.{pointwise}
use Rattle.std.proofs.lemmas.Bool.Decides.{Decides-eqb}
use Rattle.std.proofs.lemmas.Slice.Eq.{strip_prefix_is}
use Rattle.texts.specs.Lists.{rest_after}
use Rattle.texts.proofs.RestLemmas.{rest_after-append, rest_after-none}

-- what stripping a mark answers
pub rest_after-slice : (p s : List ℕ) (r : Option (Bor (List ℕ)))
    → MatchOption r (pointwise nat_eq (take (length p) s) p ≡ false) (λ x. (pointwise nat_eq (take (length p) s) p ≡ true) × (x.now ≡ drop (length p) s) × (length x.now + length p ≡ length s))
    → option_copied r ≡ rest_after p s
rest_after-slice p s None h = sym (rest_after-none p s (strip_prefix_is (λ a b. Decides-eqb a b) s p None h))
rest_after-slice p s (Some x) h = sym (ap (rest_after p) (strip_prefix_is (λ a b. Decides-eqb a b) s p (Some x) h) ∙ rest_after-append p x.now)
