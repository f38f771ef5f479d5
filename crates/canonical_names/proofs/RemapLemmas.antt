-- Words renamed one after the other.
use Rattle.std.proofs.Common.{◌≡◌, ℕ, ◌+◌, suc, zero, List, [], ◌∷◌, ◌++◌, map, drop, take, append_assoc, refl, ap, ◌∙◌, add-one, arith}
use Rattle.compilers.specs.CommandLines.{CommandLine, words_of_command}
use Rattle.canonical_names.specs.Renaming.{renamed_word, renamed_words, seen_after_word, seen_after, with_words, renamed_after}

-- one more of what stands in front
take-next : {A B : Type 0} (f : A → B) (xs : List A) (i : ℕ) (x : A) (rest : List A) → drop i xs ≡ x ∷ rest → take (suc i) (map f xs) ≡ take i (map f xs) ++ f x ∷ []
take-next f [] zero x rest h = cc
take-next f [] (suc i) x rest h = cc
take-next f (y ∷ ys) zero x rest h = let is : y ≡ x = cc in ap (λ z. f z ∷ []) is
take-next f (y ∷ ys) (suc i) x rest h = ap (λ t. f y ∷ t) (take-next f ys i x rest h)

module _ (suffixes : List (List ℕ)) where
  seen-last : (first words : List (List ℕ)) (w : List ℕ) → seen_after suffixes first (words ++ w ∷ []) ≡ seen_after_word suffixes (seen_after suffixes first words) w
  seen-last first [] w = refl
  seen-last first (v ∷ words) w = seen-last (seen_after_word suffixes first v) words w

  pub seen-step : {A : Type 0} (f : A → List ℕ) (first names : List (List ℕ)) (args : List A) (i : ℕ) (x : A) (rest : List A) → drop i args ≡ x ∷ rest →
      names ≡ seen_after suffixes first (take i (map f args)) → seen_after_word suffixes names (f x) ≡ seen_after suffixes first (take (i + 1) (map f args))
  seen-step f first names args i x rest is seen = grind (arith, seen-last, add-one, take-next)

  pub words-step : (names done target rest : List (List ℕ)) (w : List ℕ) → done ++ renamed_words suffixes names (w ∷ rest) ≡ target →
      (done ++ renamed_word suffixes names w ∷ []) ++ renamed_words suffixes (seen_after_word suffixes names w) rest ≡ target
  words-step names done target rest w h = append_assoc done (renamed_word suffixes names w ∷ []) (renamed_words suffixes (seen_after_word suffixes names w) rest) ∙ h

  pub commands-step : (names : List (List ℕ)) (done target rest : List CommandLine) (c : CommandLine) → done ++ renamed_after suffixes names (c ∷ rest) ≡ target →
      (done ++ with_words c (renamed_words suffixes names (words_of_command c)) ∷ []) ++ renamed_after suffixes (seen_after suffixes names (words_of_command c)) rest ≡ target
  commands-step names done target rest c h = grind (arith, append_assoc)

-- the names of a beginning of the words were seen
pub beginning-seen : (first before new : List (List ℕ) × List (List ℕ)) (words : List (List ℕ)) (k : ℕ) → before.0 ≡ first.0 → before.1 ≡ seen_after first.0 first.1 (take k words) → new ≡ before →
    (n : ℕ) × (new ≡ (first.0, seen_after first.0 first.1 (take n words)))
beginning-seen first before new words k lists seen is = (k, is ∙ (λ i. (lists i, seen i)))
