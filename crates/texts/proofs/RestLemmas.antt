-- Facts about what follows a text in a word that begins with it.
use Rattle.std.proofs.Common.{◌≡◌, ◌≢◌, ℕ, true, false, cond, eqb, List, [], ◌∷◌, ◌++◌, Option, Some, None, MatchOption, Bor, refl, ap, sym, ◌∙◌, drop, option_copied, arith}
use Rattle.std.specs.Str.Pattern.{FindsTextPrefix, StripsPrefix}
use Rattle.std.proofs.lemmas.Bool.Decides.{Decides-eqb}
use Rattle.texts.specs.Lists.{rest_after}

-- what follows a text in itself and more is the rest
pub rest_after-append : (p rest : List ℕ) → rest_after p (p ++ rest) ≡ Some rest
rest_after-append [] rest = refl
rest_after-append (c ∷ cs) rest = let same : eqb c c ≡ true = (Decides-eqb c c).1 refl in rw same (rest_after-append cs rest)

-- nothing follows a text in a word that doesn't begin with it
pub rest_after-none : (p s : List ℕ) → ((rest : List ℕ) → s ≢ p ++ rest) → rest_after p s ≡ None
rest_after-none [] s h = absurd (h s refl)
rest_after-none (c ∷ cs) [] h = refl
rest_after-none (c ∷ cs) (d ∷ ds) h =
    elim (eqb c d) as (λ b. eqb c d ≡ b → cond b (rest_after cs ds) None ≡ None)
    [ true ↦ λ e. rest_after-none cs ds (λ rest q. let same : c ≡ d = (Decides-eqb c d).0 e in h rest (cc)) | false ↦ λ _. refl ] refl

-- what stripping a text from a word answers
pub rest_after-stripped : (p s : List ℕ) (r : Option (Bor (List ℕ))) → MatchOption r (FindsTextPrefix p s None) (λ x. StripsPrefix (FindsTextPrefix p) s x.now) → option_copied r ≡ rest_after p s
rest_after-stripped p s r h = grind (arith, rest_after-none, rest_after-append)
