-- What holds of the layouts of all texts.
use Rattle.std.specs.Prelude.{ℕ, Bool, false, true, ◌≡◌, ◌==◌, ◌&&◌, not, List, [], ◌∷◌, ◌++◌, Some, is_some, codes}
use Rattle.std.specs.List.{list_all}
use Rattle.std.specs.Int.{is_in_range}
use Rattle.source_layouts.specs.declared.state.State.TheVariants.{Between}
use Rattle.source_layouts.specs.Bytes.{is_blank, is_odd}
use Rattle.source_layouts.specs.Pieces.{pieces}
use Rattle.source_layouts.specs.Reading.{Reading, beginning, read, layout}

-- where a reader is between two tokens
pub record IsBetween (at : Reading) : Type 0 where
  pub state : at.state ≡ Between
  pub token : at.token ≡ []
  pub ends : at.ends ≡ []
  pub wide : at.is_wide ≡ false

-- a text that leaves off in no token leaves no bytes of one
abbrev pub TextsLeaveNothing : Type 0
TextsLeaveNothing =
    (is_lined : Bool) (text : List ℕ) → (read (beginning is_lined) text).state ≡ Between → IsBetween (read (beginning is_lined) text)

-- a byte that a comment can hold without counting: one of ASCII, but for control bytes and backslashes
abbrev pub is_plain : ℕ → Bool
is_plain c = not (is_odd c) && not (is_in_range 128 255 c)

abbrev pub is_remark : List ℕ → Bool
is_remark text = list_all (λ c. is_plain c && not (c == 10)) text

-- a comment at a line's end doesn't count
abbrev pub CommentsDontCount : Type 0
CommentsDontCount =
    (at : Reading) (remark rest : List ℕ) → IsBetween at → is_remark remark ≡ true →
    read at (codes "//" ++ (remark ++ 10 ∷ rest)) ≡ read at (10 ∷ rest)

abbrev pub is_block : List ℕ → Bool
is_block text = list_all (λ c. is_plain c && (not (c == 42) && not (c == 47))) text

-- if lines don't count, any other comment is as a blank
abbrev pub CommentsAreBlanks : Type 0
CommentsAreBlanks =
    (at : Reading) (block rest : List ℕ) → IsBetween at → at.is_lined ≡ false → is_block block ≡ true →
    read at (codes "/*" ++ (block ++ (codes "*/" ++ rest))) ≡ read at (32 ∷ rest)

-- if lines don't count, a line without a token doesn't
abbrev pub EmptyLinesDontCount : Type 0
EmptyLinesDontCount =
    (at : Reading) (blanks rest : List ℕ) → at.state ≡ Between → at.is_lined ≡ false → at.is_empty ≡ true → at.has_blank ≡ false →
    list_all is_blank blanks ≡ true → read at (blanks ++ 10 ∷ rest) ≡ read at rest

-- a text with a layout has a reading
abbrev pub TextsHavePieces : Type 0
TextsHavePieces = (is_lined : Bool) (text out : List ℕ) → layout is_lined text ≡ Some out → is_some (pieces is_lined text) ≡ true

-- a layout has the pieces of its text: the tokens of what is no directive, and the directives, if lines count with their lines
abbrev pub LayoutsHaveThePieces : Type 0
LayoutsHaveThePieces = (is_lined : Bool) (text out : List ℕ) → layout is_lined text ≡ Some out → pieces is_lined out ≡ pieces is_lined text

-- so texts of one layout have the same pieces
abbrev pub SamePieces : Type 0
SamePieces =
    (is_lined : Bool) (first second out : List ℕ) → layout is_lined first ≡ Some out → layout is_lined second ≡ Some out →
    pieces is_lined first ≡ pieces is_lined second
