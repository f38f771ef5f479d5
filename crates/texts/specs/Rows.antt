-- How computed examples are written: a line's words in one text, and pairs of what is given and what comes of it.
use Rattle.std.specs.Prelude.{◌≡◌, ℕ, List, ◌==◌, map, codes}
use Rattle.std.specs.List.{slice_split}
use Prim.Native.String.{String}

-- the words of a text that has one blank between each two
abbrev pub blank_separated : List ℕ → List (List ℕ)
blank_separated text = slice_split (λ c. c == 32) text

abbrev pub spaced : String → List (List ℕ)
spaced text = blank_separated (codes text)

-- a definition gives the second part of each pair of its first part
abbrev pub Gives : {A B : Type 0} → (A → B) → List (A × B) → Type 0
Gives f examples = map (λ e. f e.0) examples ≡ map (λ e. e.1) examples
