-- Texts and their layouts, worked out by hand.
use Rattle.std.specs.Prelude.{ℕ, ◌≡◌, true, false, List, [], ◌∷◌, ◌++◌, Some, None, codes, refl}
use Rattle.source_layouts.specs.Pieces.{Piece, pieces}
use Rattle.source_layouts.specs.Reading.{layout}

-- Blanks, comments and empty lines don't count; that there are blanks does.
abbrev pub BlanksAreLeftOut : Type 0
BlanksAreLeftOut =
    (layout false (codes "  int\t a; // x" ++ 10 ∷ 10 ∷ codes "b/* y */(c )") ≡ Some (codes "int a;" ++ 10 ∷ codes "b (c )" ++ 10 ∷ []))
    × (layout false (codes "/* a /" ++ 10 ∷ codes "**/ 1.5e+3f .5 a.b x/y") ≡ Some (codes "1.5e+3f .5 a.b x/y" ++ 10 ∷ []))
    × (layout false [] ≡ Some []) × (layout false (codes "// a") ≡ Some [])

pub blanks_are_left_out : BlanksAreLeftOut
blanks_are_left_out = (refl, refl, refl, refl)

-- Line ends count if that is asked for, those of comments too.
abbrev pub LinesCount : Type 0
LinesCount =
    (layout true (10 ∷ codes "a /*" ++ 10 ∷ codes "*/ b // c" ++ 10 ∷ []) ≡ Some (10 ∷ codes "a" ++ 11 ∷ codes " b" ++ 10 ∷ []))
    × (layout true (codes ")(") ≡ Some (codes ")(" ++ 10 ∷ [])) × (layout true (codes "#line 5") ≡ Some (codes "#line 5" ++ 10 ∷ []))

pub lines_count : LinesCount
lines_count = (refl, refl, refl)

-- Literals and directives count as they are, with the lines that are joined to these.
abbrev pub TextsAreKept : Type 0
TextsAreKept =
    (layout false (codes "\"a  // \\\" b\" '\"' L'x'") ≡ Some (codes "\"a  // \\\" b\" '\"' L'x'" ++ 10 ∷ []))
    × (layout false (codes "  #define A(x)  #x // y" ++ 10 ∷ codes " %: if \\ " ++ 10 ∷ codes " 1") ≡ Some (codes "#define A(x)  #x // y" ++ 10 ∷ codes "%: if \\ " ++ 10 ∷ codes " 1" ++ 10 ∷ []))
    × (layout false (codes "a/* " ++ 195 ∷ 164 ∷ codes " */b") ≡ Some (97 ∷ 12 ∷ codes "/* " ++ 195 ∷ 164 ∷ codes " */" ++ 12 ∷ codes " b" ++ 10 ∷ []))
    × (layout false (codes "a///" ++ 195 ∷ 164 ∷ []) ≡ Some (97 ∷ 12 ∷ codes "///" ++ 195 ∷ 164 ∷ 12 ∷ 10 ∷ []))
    × (layout false (codes "a/ //" ++ 195 ∷ 164 ∷ []) ≡ Some (codes "a/" ++ 12 ∷ codes "//" ++ 195 ∷ 164 ∷ 12 ∷ 10 ∷ []))

pub texts_are_kept : TextsAreKept
texts_are_kept = (refl, refl, refl, refl, refl)

-- Texts without a layout.
abbrev pub DoubtsHaveNone : Type 0
DoubtsHaveNone =
    (layout true (codes "a \\" ++ 10 ∷ codes "b") ≡ None) × (layout true (codes "R\"(//)\"") ≡ None) × (layout true (codes "a??/b") ≡ None)
    × (layout true (codes "\"a" ++ 10 ∷ codes "\"") ≡ None) × (layout true (codes "don't") ≡ None) × (layout true (codes "1'000") ≡ None)
    × (layout true (codes "/* a") ≡ None) × (layout true (codes "/* /* */") ≡ None) × (layout true (codes "// a \\ b") ≡ None)
    × (layout true (codes "#define A /*") ≡ None) × (layout true (codes "#define A /\\" ++ 10 ∷ codes "* b") ≡ None)
    × (layout true (codes "#define A R\"(") ≡ None) × (layout true (codes "#define A \\") ≡ None) × (layout true (239 ∷ 187 ∷ 191 ∷ []) ≡ None)
    × (layout false (codes "f(") ≡ None) × (layout false (codes ")(") ≡ None) × (layout false (codes "f(" ++ 10 ∷ codes "#if 1" ++ 10 ∷ codes ")") ≡ None)
    × (layout false (codes "#line 5") ≡ None) × (layout false (codes "# 5 \"a\"") ≡ None) × (layout false (codes "#/**/line 5") ≡ None)
    × (layout true (35 ∷ 0 ∷ codes "line 5") ≡ None) × (layout true (195 ∷ 164 ∷ codes "R\"(\"") ≡ None) × (layout true (codes "$1'0'") ≡ None)

pub doubts_have_none : DoubtsHaveNone
doubts_have_none = (refl, refl, refl, refl, refl, refl, refl, refl, refl, refl, refl, refl, refl, refl, refl, refl, refl, refl, refl, refl, refl, refl, refl)

abbrev code : ℕ → List ℕ → Piece
code line text = record { line = line; is_directive = false; text = text }

abbrev directive : ℕ → List ℕ → Piece
directive line text = record { line = line; is_directive = true; text = text }

-- Pieces, with the lines on which they end: comments end them, but in literals, and a `#` begins a directive only as the first byte of its line.
abbrev pub PiecesAreRead : Type 0
PiecesAreRead =
    (pieces true (codes "int a; // x" ++ 10 ∷ codes "b/* y */c") ≡ Some (code 0 (codes "int") ∷ code 0 (codes "a;") ∷ code 1 (codes "b") ∷ code 1 (codes "c") ∷ []))
    × (pieces true (codes "/* x */ #if 1" ++ 10 ∷ codes "d # e") ≡ Some (directive 0 (codes "#if 1") ∷ code 1 (codes "d") ∷ code 1 (codes "#") ∷ code 1 (codes "e") ∷ []))
    × (pieces true (codes "a /*" ++ 10 ∷ codes "*/ #b") ≡ Some (code 0 (codes "a") ∷ code 1 (codes "#b") ∷ []))
    × (pieces true (codes "%:include <a//b> \\ " ++ 10 ∷ codes " c" ++ 10 ∷ codes "d") ≡ Some (directive 1 (codes "%:include <a//b> \\ " ++ 10 ∷ codes " c") ∷ code 2 (codes "d") ∷ []))
    × (pieces false (10 ∷ codes "f(\"a // \\\" b\",'\"'/ 2)") ≡ Some (code 0 (codes "f(\"a // \\\" b\",'\"'/") ∷ code 0 (codes "2)") ∷ []))
    × (pieces false (codes "a/ // x") ≡ Some (code 0 (codes "a/") ∷ [])) × (pieces false (codes "a/// x") ≡ Some (code 0 (codes "a") ∷ []))

pub pieces_are_read : PiecesAreRead
pieces_are_read = (refl, refl, refl, refl, refl, refl, refl)

-- Texts that may be read in another way, or that have no end.
abbrev pub DoubtsAreNotRead : Type 0
DoubtsAreNotRead =
    (pieces true (codes "u8R\"(//)\"") ≡ None) × (pieces true (codes "1'000") ≡ None) × (pieces true (codes "a \\" ++ 10 ∷ codes "b") ≡ None)
    × (pieces true (codes "// a \\" ++ 10 ∷ codes "b") ≡ None) × (pieces true (codes "/* a") ≡ None) × (pieces true (codes "\"a" ++ 10 ∷ codes "\"") ≡ None)
    × (pieces true (codes "don't") ≡ None) × (pieces true (codes "#define A \\") ≡ None)

pub doubts_are_not_read : DoubtsAreNotRead
doubts_are_not_read = (refl, refl, refl, refl, refl, refl, refl, refl)
