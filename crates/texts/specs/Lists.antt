-- Words on lists and options that several definitions share.
use Rattle.std.specs.Prelude.{ℕ, List, [], ◌∷◌, ◌++◌, ◌==◌, Bool, false, if◌then◌else◌, Option, Some, None, fold, bytes_eq}
use Rattle.std.specs.List.{list_any}

-- the last of a list
abbrev pub last_of : {X : Type 0} → List X → Option X
last_of xs = fold (λ _ x. Some x) None xs

-- the later of two values, where there is one
abbrev pub latest : {X : Type 0} → Option X → Option X → Option X
latest before None = before
latest before (Some x) = Some x

-- whether there is a text that passes a test
abbrev pub is_some_and : {X : Type 0} → (X → Bool) → Option X → Bool
is_some_and test None = false
is_some_and test (Some x) = test x

-- names in order of first appearance, each once, with one more
abbrev pub with_name : List (List ℕ) → Option (List ℕ) → List (List ℕ)
with_name seen None = seen
with_name seen (Some name) = if list_any (bytes_eq name) seen then seen else seen ++ name ∷ []

-- the first word of a list
abbrev pub first_word : List (List ℕ) → Option (List ℕ)
first_word [] = None
first_word (w ∷ ws) = Some w

-- the word right after the first that is a given word
abbrev pub word_after : List ℕ → List (List ℕ) → Option (List ℕ)
word_after word [] = None
word_after word (w ∷ ws) = if bytes_eq word w then first_word ws else word_after word ws

-- what follows a text in a word that begins with it
abbrev pub rest_after : List ℕ → List ℕ → Option (List ℕ)
rest_after [] word = Some word
rest_after (c ∷ cs) [] = None
rest_after (c ∷ cs) (d ∷ ds) = if c == d then rest_after cs ds else None
