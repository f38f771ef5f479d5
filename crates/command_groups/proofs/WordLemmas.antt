-- Words that are edited at the place of the first that is a given word.
use Rattle.std.proofs.Common.{◌≡◌, ℕ, suc, Bool, List, [], ◌∷◌, map, refl, arith, String, string_bytes, Global, Option, Some, None, option_map, if◌then◌else◌, insert, remove, bytes_eq}
use Rattle.std.proofs.lemmas.Option.{none-some}
use Rattle.command_groups.specs.Stage.{with_word_before, without_first_word}
use Rattle.command_groups.specs.Views.{word_place}

abbrev Words : Type 0
Words = List (String Global)

unknown-step : (b : Bool) (w : List ℕ) (ws edited rest : List (List ℕ)) (p : Option ℕ) → (p ≡ None → rest ≡ ws) → (if b then Some 0 else option_map suc p) ≡ None → (if b then edited else w ∷ rest) ≡ w ∷ ws
unknown-step b w ws edited rest p same h = grind (arith, none-some)

-- words without such a word stay as they are
pub before-unknown : (new word : List ℕ) (ws : List (List ℕ)) → word_place word ws ≡ None → with_word_before new word ws ≡ ws
before-unknown new word [] h = refl
before-unknown new word (w ∷ ws) h = unknown-step (bytes_eq word w) w ws (new ∷ w ∷ ws) (with_word_before new word ws) (word_place word ws) (before-unknown new word ws) h

pub without-unknown : (word : List ℕ) (ws : List (List ℕ)) → word_place word ws ≡ None → without_first_word word ws ≡ ws
without-unknown word [] h = refl
without-unknown word (w ∷ ws) h = unknown-step (bytes_eq word w) w ws ws (without_first_word word ws) (word_place word ws) (without-unknown word ws) h

-- a word that is inserted at the place stands right before
pub before-known : (new : String Global) (word : List ℕ) (ws : Words) (place : ℕ) → word_place word (map string_bytes ws) ≡ Some place →
    map string_bytes (insert ws place new) ≡ with_word_before (string_bytes new) word (map string_bytes ws)
before-known new word [] place h = absurd (none-some place h)
before-known new word (w ∷ ws) place h = grind (arith, (before-known new word ws))

-- words of which the one at the place is removed are without it
pub without-known : (word : List ℕ) (ws : Words) (place : ℕ) → word_place word (map string_bytes ws) ≡ Some place → map string_bytes (remove ws place) ≡ without_first_word word (map string_bytes ws)
without-known word [] place h = absurd (none-some place h)
without-known word (w ∷ ws) place h = grind (arith, (without-known word ws))
