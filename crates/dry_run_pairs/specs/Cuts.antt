-- What stands in front of a mark in a text, and what follows it.
use Rattle.std.specs.Prelude.{◌≡◌, ℕ, List, [], ◌∷◌, Bool, Option, Some, None, if◌then◌else◌, codes, refl, option_map}
use Rattle.std.specs.Option.{is_some, option_or}
use Rattle.texts.specs.Lists.{rest_after}

-- the text in front of the first place of a mark, and the text that follows the mark there. No mark is empty
abbrev pub cut : List ℕ → List ℕ → Option (List ℕ × List ℕ)
cut mark [] = None
cut mark (c ∷ cs) =
    option_or (option_map (λ rest. ([], rest)) (rest_after mark (c ∷ cs))) (option_map (λ parts. (c ∷ parts.0, parts.1)) (cut mark cs))

-- whether a text holds a mark
abbrev pub holds : List ℕ → List ℕ → Bool
holds mark text = is_some (cut mark text)

-- a text from its first byte on that doesn't pass a test
abbrev pub past : (ℕ → Bool) → List ℕ → List ℕ
past test [] = []
past test (c ∷ cs) = if test c then past test cs else c ∷ cs

-- examples
pub first_of_two : cut (codes "--") (codes "a--b--c") ≡ Some (codes "a", codes "b--c")
first_of_two = refl

pub mark_at_the_end : cut (codes "--") (codes "ab--") ≡ Some (codes "ab", [])
mark_at_the_end = refl

pub half_a_mark : cut (codes "--") (codes "a-b-") ≡ None
half_a_mark = refl
