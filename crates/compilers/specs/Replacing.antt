-- The places of a text in another, replaced.
use Rattle.std.specs.Prelude.{◌≡◌, ℕ, zero, suc, ◌-◌, List, [], ◌∷◌, ◌++◌, nat_eq, length, if◌then◌else◌, codes}
use Rattle.std.specs.List.{starts_with}

-- what is left of a text once `skipped` characters are passed over, with each place of a text in it replaced by a new one
abbrev pub replaced_past : ℕ → List ℕ → List ℕ → List ℕ → List ℕ
replaced_past skipped old new [] = []
replaced_past (suc skipped) old new (c ∷ cs) = replaced_past skipped old new cs
replaced_past zero old new (c ∷ cs) =
    (if starts_with nat_eq (c ∷ cs) old then new else c ∷ []) ++ replaced_past (if starts_with nat_eq (c ∷ cs) old then length old - 1 else 0) old new cs

-- a text with each place of an old text, which isn't empty, replaced by a new one: from the leftmost place on, and no
-- place overlaps the one before it
abbrev pub replaced : List ℕ → List ℕ → List ℕ → List ℕ
replaced old new text = replaced_past 0 old new text

-- examples: places that touch, places that overlap, and a new text that holds the old one
abbrev pub PlacesAreReplaced : Type 0
PlacesAreReplaced =
    (replaced (codes "ab") (codes "x") (codes "ababc") ≡ codes "xxc")
    × (replaced (codes "aa") (codes "b") (codes "aaa") ≡ codes "ba")
    × (replaced (codes "a") (codes "aa") (codes "aba") ≡ codes "aabaa")
