-- Which lists of suffixes a caller may pass.
use Rattle.std.specs.Prelude.{◌≡◌, ℕ, List, [], ◌∷◌, Bool, true, false, not, ◌&&◌, ◌-◌, ◌==◌, nat_eq, length, Option, refl, codes, unwrap_or, bytes_eq}
use Rattle.std.specs.Char.{is_ascii_alphanumeric}
use Rattle.std.specs.List.{list_all, list_any, ends_with, slice_get}
use Rattle.texts.specs.Lists.{is_some_and}
use Rattle.texts.specs.Path.{is_bare}
use Rattle.canonical_names.specs.Generated.{standard_suffixes}
use Rattle.canonical_names.specs.CanonicalNames.{AreSuffixes}

-- the last byte of a text
abbrev pub last_byte : List ℕ → Option ℕ
last_byte text = slice_get text (length text - 1)

-- a suffix begins with `.`, ends in an ASCII letter or digit, and contains no `/`
abbrev pub is_suffix : List ℕ → Bool
is_suffix text = is_some_and (λ c. c == 46) (slice_get text 0) && (is_some_and is_ascii_alphanumeric (last_byte text) && is_bare text)

-- whether neither of two suffixes is an end of the other
abbrev pub is_apart : List ℕ → List ℕ → Bool
is_apart s t = not (ends_with nat_eq s t) && not (ends_with nat_eq t s)

-- whether none is an end of another one
abbrev pub are_apart : List (List ℕ) → Bool
are_apart [] = true
are_apart (s ∷ suffixes) = list_all (is_apart s) suffixes && are_apart suffixes

-- whether a caller may pass a list: each is a suffix, none is an end of another one, and the suffix of cicc's input is
-- among them
abbrev pub are_suffixes : List (List ℕ) → Bool
are_suffixes suffixes = list_all is_suffix suffixes && (are_apart suffixes && list_any (bytes_eq (codes ".cpp1.ii")) suffixes)

-- the suffixes of nvcc's files, unless the caller passed others
abbrev pub suffixes_or_standard : Option (List (List ℕ)) → List (List ℕ)
suffixes_or_standard handed = unwrap_or handed standard_suffixes

-- a list that a caller may pass has what the laws ask for
abbrev pub AcceptedAreSuffixes : Type 0
AcceptedAreSuffixes = (suffixes : List (List ℕ)) → are_suffixes suffixes ≡ true → AreSuffixes suffixes

-- Examples: the standard suffixes, and one more; then an empty list, one without cicc's input, suffixes that overlap or
-- are listed twice, and texts that aren't suffixes: an empty one, one with a slash, without a dot, and with one at the end.
pub lists_are_accepted : list_all are_suffixes (standard_suffixes ∷ (codes ".cudafe1.gpu" ∷ standard_suffixes) ∷ []) ≡ true
lists_are_accepted = refl

pub odd_lists_are_refused :
    list_any are_suffixes ([] ∷ (codes ".cpp4.ii" ∷ []) ∷ (codes ".gpu" ∷ codes ".cudafe1.gpu" ∷ standard_suffixes) ∷ []) ≡ false
odd_lists_are_refused = refl

pub odd_suffixes_are_refused :
    list_any (λ suffix. are_suffixes (suffix ∷ standard_suffixes)) (codes ".ii" ∷ codes ".cpp1.ii" ∷ [] ∷ codes ".a/b" ∷ codes "gpu" ∷ codes ".x." ∷ []) ≡ false
odd_suffixes_are_refused = refl
