-- The words of a plain text: it holds no quote and no backslash, no `#`, and of the blanks none but spaces.
use Rattle.std.specs.Prelude.{◌≡◌, ℕ, List, [], ◌∷◌, ◌==◌, Bool, true, false, not, ◌&&◌, if◌then◌else◌, refl, codes}
use Rattle.std.specs.List.{list_all}
use Rattle.memchr.specs.Find.{is_byte3}
use Rattle.texts.specs.Shell.Splitting.{prepend}

-- whether a text is plain
abbrev pub is_plain : List ℕ → Bool
is_plain text = list_all (λ c. not (is_byte3 34 39 92 c)) text && list_all (λ c. not (is_byte3 9 10 35 c)) text

-- a text as a word, unless it is empty
abbrev pub word_of : List ℕ → List (List ℕ)
word_of [] = []
word_of (c ∷ cs) = (c ∷ cs) ∷ []

-- a text, cut at its spaces; inside a word the first is the rest of that word
abbrev pub cut : Bool → List ℕ → List (List ℕ)
cut false [] = []
cut true [] = [] ∷ []
cut false (c ∷ cs) = if c == 32 then cut false cs else prepend (c ∷ []) (cut true cs)
cut true (c ∷ cs) = if c == 32 then [] ∷ cut false cs else prepend (c ∷ []) (cut true cs)

-- the words of a text that begins between two words
abbrev pub between : List ℕ → List (List ℕ)
between text = cut false text

-- example: spaces at both ends and two in a row
pub spaces_cut : between (codes " ab  c ") ≡ codes "ab" ∷ codes "c" ∷ []
spaces_cut = refl
