-- Texts and their tokens, worked out by hand.
use Rattle.std.specs.Prelude.{false, true, ◌≡◌, [], ◌∷◌, ◌++◌, Some, None, codes, refl}
use Rattle.token_texts.specs.Lexing.{tokens}
use Rattle.token_texts.specs.Normal.{normal}
use Rattle.token_texts.specs.TokenLaws.{is_whole_lines, begins_with_move}

-- Words, numbers and operators. What could join stays apart.
abbrev pub WordsAreRead : Type 0
WordsAreRead =
    (tokens (codes "int  a=f(b ,1'000.5e-3f);") ≡ Some (codes "int" ∷ codes "a" ∷ codes "=" ∷ codes "f" ∷ codes "(" ∷ codes "b" ∷ codes "," ∷ codes "1'000.5e-3f" ∷ codes ")" ∷ codes ";" ∷ []))
    × (tokens (codes "a + +b") ≡ Some (codes "a" ∷ codes "+" ∷ codes "+" ∷ codes "b" ∷ []))
    × (tokens (codes "a ++b") ≡ Some (codes "a" ∷ codes "++" ∷ codes "b" ∷ []))
    × (tokens (codes "k<<<1,2>>>()") ≡ Some (codes "k" ∷ codes "<<<" ∷ codes "1" ∷ codes "," ∷ codes "2" ∷ codes ">>>" ∷ codes "(" ∷ codes ")" ∷ []))
    × (tokens (codes "=.5") ≡ Some (codes "=.5" ∷ [])) × (tokens (codes "= .5") ≡ Some (codes "=" ∷ codes ".5" ∷ []))
    × (tokens (codes "0xe+1") ≡ Some (codes "0xe+1" ∷ [])) × (tokens (codes "0xf+1") ≡ Some (codes "0xf" ∷ codes "+" ∷ codes "1" ∷ []))
    × (tokens [] ≡ Some [])

pub words_are_read : WordsAreRead
words_are_read = (refl, refl, refl, refl, refl, refl, refl, refl, refl)

-- In literals all bytes count.
abbrev pub LiteralsAreRead : Type 0
LiteralsAreRead =
    (tokens (codes "L\"a  \\\" b\"s u8'c' x\"d\"") ≡ Some (codes "L\"a  \\\" b\"s" ∷ codes "u8'c'" ∷ codes "x" ∷ codes "\"d\"" ∷ []))
    × (tokens (codes "\"/* a\" b // \"") ≡ Some (codes "\"/* a\"" ∷ codes "b" ∷ []))
    × (tokens (codes "R\"x( // )\" " ++ 10 ∷ codes "# 1)x\" a") ≡ Some ((codes "R\"x( // )\" " ++ 10 ∷ codes "# 1)x\"") ∷ codes "a" ∷ []))
    × (normal (codes "R\"(\\" ++ 10 ∷ codes ")\"") ≡ Some (codes "R\"(\\\\\\n)\"" ++ 10 ∷ []))

pub literals_are_read : LiteralsAreRead
literals_are_read = (refl, refl, refl, refl)

-- Comments, blanks and line ends are no tokens.
abbrev pub CommentsAreLeftOut : Type 0
CommentsAreLeftOut =
    (tokens (codes "a/* b **/c -// d" ++ 10 ∷ 10 ∷ codes "  e") ≡ Some (codes "a" ∷ codes "c" ∷ codes "-" ∷ codes "e" ∷ []))
    × (tokens (codes "a / b /= c") ≡ Some (codes "a" ∷ codes "/" ∷ codes "b" ∷ codes "/=" ∷ codes "c" ∷ []))

pub comments_are_left_out : CommentsAreLeftOut
comments_are_left_out = (refl, refl)

-- Directives count with their line ends, and line markers without their numbers.
abbrev pub DirectivesAreRead : Type 0
DirectivesAreRead =
    (tokens (codes "#pragma once" ++ 10 ∷ codes "a") ≡ Some ((codes "#pragma once" ++ 10 ∷ []) ∷ codes "a" ∷ []))
    × (tokens (codes "# 1 \"a\" 1 3" ++ 10 ∷ codes "x" ++ 10 ∷ codes "# 9 \"a\" 3" ++ 10 ∷ codes "# 12" ++ 10 ∷ codes "# 7 \"b\"" ++ 10 ∷ [])
    ≡ Some ((codes "\"a\"31" ++ 10 ∷ []) ∷ codes "x" ∷ (codes "\"b\"" ++ 10 ∷ []) ∷ []))

pub directives_are_read : DirectivesAreRead
directives_are_read = (refl, refl)

-- Texts without a reading.
abbrev pub DoubtsHaveNone : Type 0
DoubtsHaveNone =
    (tokens (codes "'a") ≡ None) × (tokens (codes "\"a" ++ 10 ∷ codes "\"") ≡ None) × (tokens (codes "a \\" ++ 10 ∷ codes "b") ≡ None)
    × (tokens (codes "// a \\" ++ 10 ∷ codes "b") ≡ None) × (tokens (codes "/* a") ≡ None) × (tokens (codes "a ??/ b") ≡ None)
    × (tokens (codes " #pragma once" ++ 10 ∷ []) ≡ None) × (tokens (codes "%:pragma once" ++ 10 ∷ []) ≡ None)
    × (tokens (codes "#line 3" ++ 10 ∷ []) ≡ None) × (tokens (codes "#pragma a /* b" ++ 10 ∷ []) ≡ None)
    × (tokens (codes "R\"a b()\"") ≡ None) × (tokens (codes "R\"abcdefghijklmnopq()abcdefghijklmnopq\"") ≡ None)
    × (tokens (codes "\"a\"s\"b\"") ≡ None) × (tokens (codes "1'") ≡ None)

pub doubts_have_none : DoubtsHaveNone
doubts_have_none = (refl, refl, refl, refl, refl, refl, refl, refl, refl, refl, refl, refl, refl, refl)

-- Parts that don't add up: cut within a line, in a comment, or in front of a line marker that stays in its file.
abbrev pub OtherPartsDont : Type 0
OtherPartsDont =
    (tokens (codes "ab") ≡ Some (codes "ab" ∷ [])) × (tokens (codes "a") ≡ Some (codes "a" ∷ [])) × (is_whole_lines (codes "a") ≡ false)
    × (tokens (codes "/* a" ++ 10 ∷ codes "# 1 \"b\" 1" ++ 10 ∷ codes "*/") ≡ Some []) × (tokens (codes "/* a" ++ 10 ∷ []) ≡ None)
    × (tokens (codes "# 1 \"a\" 3" ++ 10 ∷ codes "# 7 \"a\" 3" ++ 10 ∷ []) ≡ Some ((codes "\"a\"3" ++ 10 ∷ []) ∷ []))
    × (tokens (codes "# 1 \"a\" 3" ++ 10 ∷ []) ≡ Some ((codes "\"a\"3" ++ 10 ∷ []) ∷ []))
    × (tokens (codes "# 7 \"a\" 3" ++ 10 ∷ []) ≡ Some ((codes "\"a\"3" ++ 10 ∷ []) ∷ []))
    × (begins_with_move (codes "# 7 \"a\" 3") ≡ false) × (begins_with_move (codes "# 7 \"a\" 1 3") ≡ true)

pub other_parts_dont : OtherPartsDont
other_parts_dont = (refl, refl, refl, refl, refl, refl, refl, refl, refl, refl)
