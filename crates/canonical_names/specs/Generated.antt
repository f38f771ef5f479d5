-- Generated words: those that name a file that nvcc generates.
use Rattle.std.specs.Prelude.{◌≡◌, ℕ, List, [], ◌∷◌, Bool, true, false, ◌==◌, ◌&&◌, nat_eq, if◌then◌else◌, Option, Some, None, is_some, refl, codes, map, option_map}
use Rattle.std.specs.List.{find, starts_with, ends_with}

-- the suffixes of the files that nvcc generates
abbrev pub standard_suffixes : List (List ℕ)
standard_suffixes = codes ".cpp1.ii" ∷ codes ".cpp4.ii" ∷ codes ".cudafe1.c" ∷ codes ".cudafe1.cpp" ∷ codes ".cudafe1.stub.c" ∷ []

-- whether three characters are `-Fi`
abbrev pub is_file_mark : ℕ → ℕ → ℕ → Bool
is_file_mark a b c = (a == 45) && (b == 70) && (c == 105)

-- the head of a word: `-Fi` if it begins with that, else nothing
abbrev pub head_of : List ℕ → List ℕ
head_of word = if starts_with nat_eq word (codes "-Fi") then codes "-Fi" else []

-- the core of a word: what is left without all `-Fi` that it begins with
abbrev pub core_of : List ℕ → List ℕ
core_of [] = []
core_of (a ∷ []) = a ∷ []
core_of (a ∷ b ∷ []) = a ∷ b ∷ []
core_of (a ∷ b ∷ c ∷ rest) = if is_file_mark a b c then core_of rest else a ∷ b ∷ c ∷ rest

-- whether a text begins with `-`
abbrev pub begins_with_dash : List ℕ → Bool
begins_with_dash [] = false
begins_with_dash (c ∷ _) = c == 45

-- the class of a name: the suffix that it ends in
abbrev pub class_of_name : List (List ℕ) → List ℕ → Option (List ℕ)
class_of_name suffixes name = find (ends_with nat_eq name) suffixes

-- the class of a word. Only generated words have one: those whose core ends in a suffix and doesn't begin with `-`
abbrev pub class_of : List (List ℕ) → List ℕ → Option (List ℕ)
class_of suffixes word = if begins_with_dash (core_of word) then None else class_of_name suffixes (core_of word)

-- whether a word is generated
abbrev pub is_generated : List (List ℕ) → List ℕ → Bool
is_generated suffixes word = is_some (class_of suffixes word)

-- the name in a generated word: its core
abbrev pub generated_name : List (List ℕ) → List ℕ → Option (List ℕ)
generated_name suffixes word = option_map (λ _. core_of word) (class_of suffixes word)

-- Examples: several `-Fi` count as one head; a lone suffix is generated, an option's word isn't.
pub two_marks : (head_of (codes "-Fi-Fik.cpp1.ii") ∷ core_of (codes "-Fi-Fik.cpp1.ii") ∷ []) ≡ codes "-Fi" ∷ codes "k.cpp1.ii" ∷ []
two_marks = refl

pub class_of_stub : class_of standard_suffixes (codes "a/k.cudafe1.stub.c") ≡ Some (codes ".cudafe1.stub.c")
class_of_stub = refl

pub words_that_are_generated :
    map (is_generated standard_suffixes) (codes ".cpp1.ii" ∷ codes "-I=k.cudafe1.c" ∷ codes "kernel.cudafe1.gpu" ∷ []) ≡ true ∷ false ∷ false ∷ []
words_that_are_generated = refl
