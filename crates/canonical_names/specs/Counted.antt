-- A map of canonical names and its counters.
use Rattle.std.specs.Prelude.{◌≡◌, ℕ, List, ◌++◌, Bool, true, nat_eq, length, map, filter, is_some, Option, Some, None, if◌then◌else◌, codes, decimal}
use Rattle.std.specs.List.{ends_with, list_all, slice_get}
use Rattle.canonical_names.specs.Generated.{begins_with_dash, class_of_name}
use Rattle.canonical_names.specs.Renaming.{canonical_name}
use Rattle.canonical_names.specs.SuffixRule.{are_suffixes}

-- the names of a list of names and what they became
abbrev pub old_names : List (List ℕ × List ℕ) → List (List ℕ)
old_names pairs = map (λ p. p.0) pairs

-- the class of a core, which doesn't begin with `-`
abbrev pub class_of_core : List (List ℕ) → List ℕ → Option (List ℕ)
class_of_core suffixes core = if begins_with_dash core then None else class_of_name suffixes core

-- how many names are of a class
abbrev pub count_of : List (List ℕ) → List ℕ → ℕ
count_of names class = length (filter (λ n. ends_with nat_eq n class) names)

-- a name and its canonical name, by the names seen
abbrev pub with_canonical : List (List ℕ) → List (List ℕ) → List ℕ → List ℕ × List ℕ
with_canonical suffixes names n = (n, canonical_name suffixes names n)

-- whether a name has a class
abbrev pub has_class : List (List ℕ) → List ℕ → Bool
has_class suffixes n = is_some (class_of_name suffixes n)

-- the list of suffixes was accepted, each name has a class and is paired with its canonical name, and each counter is the
-- number of names of its class
pub record IsCounted (suffixes names : List (List ℕ)) (pairs : List (List ℕ × List ℕ)) (counts : List ℕ) : Type 0 where
  pub accepted : are_suffixes suffixes ≡ true
  pub classes : list_all (has_class suffixes) names ≡ true
  pub canonical : pairs ≡ map (with_canonical suffixes names) names
  pub counted : counts ≡ map (count_of names) suffixes

-- a canonical file name, its number as std writes it
abbrev pub decimal_file : ℕ → List ℕ → List ℕ
decimal_file k class = codes "x_" ++ (decimal k ++ class)

-- how many names are of the class at an index of the list of suffixes
abbrev pub IsCount : List (List ℕ) → List (List ℕ) → ℕ → ℕ → Type 0
IsCount suffixes names i count = (class : List ℕ) → slice_get suffixes i ≡ Some class → count ≡ count_of names class
