-- Which directories have one text only. Two commands are taken to use the same file if its paths are the same text, so a plan whose directory has
-- several texts would lack needs.
use Rattle.std.specs.Prelude.{◌≡◌, ◌||◌, ◌&&◌, ℕ, List, [], ◌∷◌, Bool, true, false, not, nat_eq, codes, refl, bytes_eq}
use Rattle.std.specs.List.{ends_with, list_all, list_any, starts_with}
use Rattle.canonical_names.specs.Alike.{holds}

-- whether a part inside a path is empty, `.` or `..`
abbrev pub has_odd_part : List ℕ → Bool
has_odd_part path = holds (codes "//") path || (holds (codes "/./") path || holds (codes "/../") path)

-- whether the last part is
abbrev pub has_odd_end : List ℕ → Bool
has_odd_end path = ends_with nat_eq path (codes "/") || (ends_with nat_eq path (codes "/.") || ends_with nat_eq path (codes "/.."))

-- whether a path is absolute and plain: the root, or no part of it is empty, `.` or `..`
abbrev pub is_plain : List ℕ → Bool
is_plain path = bytes_eq path (codes "/") || (starts_with nat_eq path (codes "/") && (not (has_odd_part path) && not (has_odd_end path)))

-- examples
pub plain_paths : list_all is_plain (codes "/" ∷ codes "/t/.a/..b/c." ∷ []) ≡ true
plain_paths = refl

pub odd_paths : list_any is_plain (codes "../t" ∷ codes "//t" ∷ codes "/t/./u" ∷ codes "/t/.." ∷ codes "/t/" ∷ []) ≡ false
odd_paths = refl
