-- A stub file under the name by which its reader knows it.
use Rattle.std.specs.Prelude.{◌≡◌, ℕ, List, [], ◌∷◌, ◌++◌, ◌==◌, if◌then◌else◌, codes, refl, bytes_eq}

-- the line marker by which a stub file says that it begins
abbrev pub marker : List ℕ → List ℕ
marker path = codes "# 1 \"" ++ (path ++ codes "\"")

-- a line, or another marker in place of one
abbrev pub renamed_line : List ℕ → List ℕ → List ℕ → List ℕ
renamed_line own other line = if bytes_eq line own then other else line

-- the rest of a text behind the beginning of a line, whose markers are others
abbrev pub renamed_from : List ℕ → List ℕ → List ℕ → List ℕ → List ℕ
renamed_from own other line [] = renamed_line own other line
renamed_from own other line (c ∷ cs) =
    if c == 10 then renamed_line own other line ++ 10 ∷ renamed_from own other [] cs else renamed_from own other (line ++ c ∷ []) cs

-- what a stub file says under another name
abbrev pub stub_text : List ℕ → List ℕ → List ℕ → List ℕ
stub_text own other text = renamed_from (marker own) (marker other) [] text

pub a_whole_line_changes :
    stub_text (codes "/o.c") (codes "/t.c") (codes "# 1 \"/o.c\"" ++ 10 ∷ codes "x # 1 \"/o.c\"" ++ 10 ∷ codes "# 2 \"/o.c\"" ++ 10 ∷ [])
    ≡ codes "# 1 \"/t.c\"" ++ 10 ∷ codes "x # 1 \"/o.c\"" ++ 10 ∷ codes "# 2 \"/o.c\"" ++ 10 ∷ []
a_whole_line_changes = refl
