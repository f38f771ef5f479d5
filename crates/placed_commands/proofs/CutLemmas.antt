-- A text is cut at its first `=`.
use Rattle.std.proofs.Common.{◌≡◌, ℕ, ◌+◌, true, false, not, cond, List, [], ◌∷◌, Option, Some, None, Bor, refl, ap, sym, ◌∙◌, subst, eqb, eqb-true, take, get_or, arith, one-add}
use Rattle.std.specs.List.{position_or_len, prefix_len, before_first}
use Rattle.std.proofs.lemmas.List.Sums.{split_at_first, passes_at_first}
use Rattle.std.proofs.lemmas.Str.Pattern.{IsSplitOnceResult, split_once_first}
use Rattle.std.proofs.Math.Seq.{take-length}
use Rattle.texts.specs.Path.{lacks}
use Rattle.placed_commands.specs.PlacedWords.{IsCutAtEquals}

-- no `=` stands before the first one
lacks-before : (bs : List ℕ) → lacks 61 (before_first (λ b. eqb b 61) bs) ≡ true
lacks-before [] = refl
lacks-before (b ∷ bs) =
    elim (eqb b 61)
    as (λ t. eqb b 61 ≡ t → lacks 61 (take (cond (not t) (1 + prefix_len (λ x. not (eqb x 61)) bs) 0) (b ∷ bs)) ≡ true)
    [ true ↦ λ _. refl | false ↦ λ e. subst (λ n. lacks 61 (take n (b ∷ bs)) ≡ true) (sym (one-add (prefix_len (λ x. not (eqb x 61)) bs))) (rw e (lacks-before bs)) ] refl

pub cut-once : (bs : List ℕ) (r : Option (Bor (List ℕ) × Bor (List ℕ))) → IsSplitOnceResult 61 bs r → IsCutAtEquals bs r
cut-once bs None h =
    subst (λ t. lacks 61 t ≡ true) (ap (λ n. take n bs) (split_once_first 61 bs None h (omega arith)) ∙ take-length bs) (lacks-before bs)
cut-once bs (Some x) h =
    let at = split_once_first 61 bs (Some x) h (omega arith) in
    let found : get_or bs (position_or_len (λ b. eqb b 61) bs) 0 ≡ 61 = eqb-true _ 61 (passes_at_first (λ b. eqb b 61) bs 0 at.0) in
    grind (arith, lacks-before, split_at_first)
