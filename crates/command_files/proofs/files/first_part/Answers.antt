use Rattle.std.proofs.Common.{◌≡◌, ℕ, List, [], ◌∷◌, Option, Bor, MatchOption, ap, ◌∙◌, ◌<◌, length, false, eqb, get_or, arith, All, ne_eqb}
use Rattle.std.proofs.lemmas.Grind.{get_or_default_zero}
use Rattle.std.proofs.lemmas.List.Splits.{slice_split_none, slice_split_at}
use Rattle.std.proofs.lemmas.Str.Pattern.{IsSplitOnceResult, split_parts}
use Rattle.command_files.specs.CommandFiles.{parts_of}
use Rattle.command_files.proofs.files.first_part.Goals as goal

all-other : (c : ℕ) (xs : List ℕ) → ((i : ℕ) → i < length xs → get_or xs i 0 ≡ c → ⊥) → All (λ b. eqb b c ≡ false) xs
all-other c xs h = λ k d within. ap (λ x. eqb x c) (get_or_default_zero xs k d within) ∙ ne_eqb (get_or xs k 0) c (h k within)

first-part : (image : List ℕ) (r : Option (Bor (List ℕ) × Bor (List ℕ))) → IsSplitOnceResult 44 image r → MatchOption r (parts_of image ≡ image ∷ []) (λ x. parts_of image ≡ x.0.now ∷ parts_of x.1.now)
first-part image r h = grind (arith, slice_split_none, all-other, split_parts, slice_split_at)

pub returns-clause-parts : goal.returns-clause-parts
returns-clause-parts c = first-part c.args.image.now c.split_once.result c.split_once.ensures.cases
