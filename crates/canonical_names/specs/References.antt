-- References to generated names within words.
use Rattle.std.specs.Prelude.{ℕ, List, [], ◌∷◌, Bool, false, ◌==◌, ◌&&◌, ◌||◌, nat_lt, nat_le, fold, length, take, if◌then◌else◌, bytes_eq}
use Rattle.std.specs.List.{list_any}
use Rattle.compilers.specs.Replacing.{replaced}
use Rattle.canonical_names.specs.Alike.{holds}
use Rattle.canonical_names.specs.Renaming.{insert_by}

-- a text with the first name of each pair replaced by the second, one after the other
abbrev pub replaced_by_all : List (List ℕ × List ℕ) → List ℕ → List ℕ
replaced_by_all pairs text = fold (λ t p. replaced p.0 p.1 t) text pairs

-- pairs, those of the longest names first
abbrev pub longest_pairs_first : List (List ℕ × List ℕ) → List (List ℕ × List ℕ)
longest_pairs_first pairs = fold (insert_by (λ p. length p.0)) [] pairs

-- a text with the names of a length replaced, in their order
abbrev pub replaced_by_length : ℕ → List (List ℕ × List ℕ) → List ℕ → List ℕ
replaced_by_length k pairs text = fold (λ t p. if length p.0 == k then replaced p.0 p.1 t else t) text pairs

-- the length of the longest name in a text of at most so many bytes; 0 if there is none
abbrev pub longer : List ℕ → ℕ → ℕ → List ℕ → ℕ
longer text most best name = if nat_lt best (length name) && (nat_le (length name) most && holds name text) then length name else best

abbrev pub longest_in : List ℕ → ℕ → List (List ℕ) → ℕ
longest_in text most names = fold (longer text most) 0 names

-- whether a text contains one of some names of a length
abbrev pub stand_of : ℕ → List (List ℕ) → List ℕ → Bool
stand_of k names text = list_any (λ n. (length n == k) && holds n text) names

-- whether a text begins with one of some names of a length; whether that is anywhere in the text
abbrev pub window_is : ℕ → List (List ℕ) → List ℕ → Bool
window_is k names text = list_any (bytes_eq (take k text)) names

abbrev pub windows_are : ℕ → List (List ℕ) → List ℕ → Bool
windows_are k names [] = false
windows_are k names (c ∷ cs) = (nat_le k (length (c ∷ cs)) && window_is k names (c ∷ cs)) || windows_are k names cs
