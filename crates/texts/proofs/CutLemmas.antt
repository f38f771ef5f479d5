-- The parts of a text that is cut at each of its characters of one kind.
use Rattle.std.proofs.Common.{◌≡◌, ℕ, List, [], ◌∷◌, Option, Some, None, Bor, MatchOption, ap, ◌∙◌, ◌<◌, length, false, eqb, get_or, ne_eqb, arith}
use Rattle.std.specs.List.{All, slice_split}
use Rattle.std.proofs.lemmas.Bool.Decides.{Decides-eqb}
use Rattle.std.proofs.lemmas.Grind.{get_or_default_zero}
use Rattle.std.proofs.lemmas.List.Splits.{slice_split_none, slice_split_at}
use Rattle.std.proofs.lemmas.Str.Pattern.{IsSplitOnceResult, split_parts}

all-other : (c : ℕ) (xs : List ℕ) → ((i : ℕ) → i < length xs → get_or xs i 0 ≡ c → ⊥) → All (λ b. eqb b c ≡ false) xs
all-other c xs h = λ k d within. ap (λ x. eqb x c) (get_or_default_zero xs k d within) ∙ ne_eqb (get_or xs k 0) c (h k within)

-- a text that is cut once has the first part, and the parts of what follows
pub parts-cut_once : (c : ℕ) (text : List ℕ) (r : Option (Bor (List ℕ) × Bor (List ℕ))) → c < 128 → IsSplitOnceResult c text r
    → MatchOption r (slice_split (λ b. eqb b c) text ≡ text ∷ []) (λ x. slice_split (λ b. eqb b c) text ≡ x.0.now ∷ slice_split (λ b. eqb b c) x.1.now)
parts-cut_once c text None low h =
    slice_split_none (λ b. eqb b c) text (all-other c text (split_parts c text None h low))
parts-cut_once c text (Some x) low h =
    grind (arith, slice_split_at, all-other, Decides-eqb, (split_parts c text (Some x) h low))
