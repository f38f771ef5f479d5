use Rattle.std.proofs.Common.{◌≡◌, ◌≢◌, ℕ, ◌<◌, List, ◌∷◌, Option, Some, MatchOption, Bor, length, arith, option_copied}
use Rattle.std.proofs.lemmas.Bool.Decides.{Decides-eqb, Decides-ltb}
use Rattle.std.proofs.lemmas.Str.Pattern.{strip_prefix_char}
use Rattle.compilers.specs.Table.{value_after}
use Rattle.compilers.proofs.table.joined_value.Goals as goal

-- what stripping a delimiter from what follows an option's text answers
value_after-stripped : (d : ℕ) (s : List ℕ) (r : Option (Bor (List ℕ))) → d < 128 → 0 < length s → MatchOption r ((rest : List ℕ) → s ≢ d ∷ rest) (λ x. s ≡ d ∷ x.now) → option_copied r ≡ value_after (Some d) s
value_after-stripped d s r small some h = grind (arith, Decides-eqb, Decides-ltb)

pub returns-in-Some-3 : goal.returns-in-Some-3
returns-in-Some-3 c = grind (arith, Decides-ltb, value_after-stripped, strip_prefix_char)
