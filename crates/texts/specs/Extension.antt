-- The extension of a text that is a path. The bytes 46 and 47 are `.` and `/`.
use Rattle.std.specs.Prelude.{ℕ, List, [], ◌∷◌, ◌++◌, ◌==◌, if◌then◌else◌, Option, Some, None, refl, codes}
use Rattle.std.specs.Option.{option_map_or}
use Rattle.texts.specs.Rows.{Gives}
use denote.Ref.{Bor}

-- the texts of two parts
abbrev pub parts_of : Bor (List ℕ) × Bor (List ℕ) → List ℕ × List ℕ
parts_of p = (p.0.now, p.1.now)

-- a byte put before the first of two parts
abbrev pub onto_front : ℕ → Option (List ℕ × List ℕ) → List ℕ → ℕ → Option (List ℕ × List ℕ)
onto_front c (Some p) cs mark = Some (c ∷ p.0, p.1)
onto_front c None cs mark = if c == mark then Some ([], cs) else None

-- a text split at the last place of a byte: what stands before it, and what follows it
abbrev pub split_at_last : ℕ → List ℕ → Option (List ℕ × List ℕ)
split_at_last mark [] = None
split_at_last mark (c ∷ cs) = onto_front c (split_at_last mark cs) cs mark

-- a path up to and with its last `/`, and nothing if it has none
abbrev pub front_of : List ℕ → List ℕ
front_of path = option_map_or (λ p. p.0 ++ 47 ∷ []) (split_at_last 47 path) []

-- what follows a path's last `/`, and all of it if it has none
abbrev pub last_part : List ℕ → List ℕ
last_part path = option_map_or (λ p. p.1) (split_at_last 47 path) path

-- a name's extension, of its two parts at the last `.`: there is none if that `.` comes first
abbrev pub extension_of_parts : Option (List ℕ × List ℕ) → Option (List ℕ)
extension_of_parts None = None
extension_of_parts (Some ([], extension)) = None
extension_of_parts (Some (c ∷ cs, extension)) = Some extension

-- the part of a name before its extension and the `.` before that
abbrev pub stem_of_parts : List ℕ → Option (List ℕ × List ℕ) → List ℕ
stem_of_parts name None = name
stem_of_parts name (Some ([], extension)) = name
stem_of_parts name (Some (c ∷ cs, extension)) = c ∷ cs

abbrev pub stem_of : List ℕ → List ℕ
stem_of name = stem_of_parts name (split_at_last 46 name)

-- a path's extension: what follows the last `.` of its last part, unless that `.` comes first there
abbrev pub extension_of : List ℕ → Option (List ℕ)
extension_of path = extension_of_parts (split_at_last 46 (last_part path))

-- a path with another extension
abbrev pub with_extension : List ℕ → List ℕ → List ℕ
with_extension path extension = ((front_of path ++ stem_of (last_part path)) ++ 46 ∷ []) ++ extension

-- examples: the last `.` of the last part counts, a `.` that comes first doesn't, and a folder's doesn't
pub paths_with_extension : Gives (λ (p : List ℕ × List ℕ). with_extension p.0 p.1) (
    ((codes "a/b.tar.c", codes "o"), codes "a/b.tar.o")
    ∷ ((codes "w/.c", codes "o"), codes "w/.c.o")
    ∷ ((codes "a.b/c", codes "o"), codes "a.b/c.o")
    ∷ ((codes "..c", codes "o"), codes "..o")
    ∷ ((codes "a/", codes "d"), codes "a/.d")
    ∷ [])
paths_with_extension = refl

pub extensions : Gives extension_of ((codes "a/b.tar.c", Some (codes "c")) ∷ (codes "b.", Some []) ∷ (codes "a.b/.c", None) ∷ [])
extensions = refl
