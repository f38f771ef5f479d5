-- One more word among those that stand first.
use Rattle.std.proofs.Common.{◌≡◌, ◌∙◌, ℕ, List, [], ◌∷◌, ◌++◌, Bool, true, false, ◌||◌, not, cond, Some, Bor, map, refl, ap, bytes_eq, arith}
use Rattle.std.specs.List.{list_any}
use Rattle.std.proofs.lemmas.Bool.{false≢true}
use Rattle.std.proofs.lemmas.List.{map-append}
use Rattle.texts.specs.Lists.{with_name}

-- whether a word stands among others
abbrev stands : List (List ℕ) → List ℕ → Bool
stands seen word = list_any (bytes_eq word) seen

stands-map : {X : Type 0} (f : X → List ℕ) (word : List ℕ) (xs : List X) → list_any (λ x. bytes_eq word (f x)) xs ≡ stands (map f xs) word
stands-map f word [] = refl
stands-map f word (x ∷ xs) = ap (λ t. bytes_eq word (f x) || t) (stands-map f word xs)

not_false : (b : Bool) → not b ≡ false → b ≡ true
not_false b e = grind (arith, false≢true)

-- Keys seen, which are the words so far. One more word is a new key (`added`), or not.
module _ (keys after : List (Bor (List ℕ))) (key : Bor (List ℕ)) (first : List (List ℕ)) (added : Bool) where
  abbrev found : Bool
  found = list_any (λ (k : Bor (List ℕ)). bytes_eq key.now k.now) keys

  alike : map (λ (k : Bor (List ℕ)). k.now) keys ≡ first → found ≡ stands first key.now
  alike h = stands-map (λ (k : Bor (List ℕ)). k.now) key.now keys ∙ ap (λ t. stands t key.now) h

  pub known_key : map (λ (k : Bor (List ℕ)). k.now) keys ≡ first → after ≡ cond found keys (keys ++ key ∷ []) → added ≡ not found → added ≡ false →
      (map (λ (k : Bor (List ℕ)). k.now) after ≡ first) × (first ≡ with_name first (Some key.now))
  known_key h a e f = grind (arith, not_false, alike)

  pub new_key : map (λ (k : Bor (List ℕ)). k.now) keys ≡ first → after ≡ cond found keys (keys ++ key ∷ []) → added ≡ not found → added ≡ true →
      (map (λ (k : Bor (List ℕ)). k.now) after ≡ first ++ key.now ∷ []) × (first ++ key.now ∷ [] ≡ with_name first (Some key.now))
  new_key h a e t = grind (arith, map-append, alike)
