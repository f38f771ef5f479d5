-- What a preprocessor reads in a source text: its pieces.
--
-- A directive is a piece, from its `#` or `%:` to the end of its line, with the lines that are joined to it. Outside of directives, a piece is what
-- stands between two blanks, comments or line ends that are in no literal. No token goes on behind one of those, so the tokens of a text are those of
-- its pieces.
--
-- A text has no reading if `"` follows a raw string's prefix, `'` a number, or if a backslash is outside literals and directives. Of a directive,
-- comments and raw strings are bytes like others: a text in which one goes on behind its line has no layout, nor has one with a trigraph.
--
-- A layout has a reading, too. Outside literals, 11 stands for a comment's line end, and a comment that counts stands between two 12.
use Rattle.std.specs.Prelude.{ℕ, ◌+◌, Bool, true, false, not, ◌||◌, ◌==◌, if◌then◌else◌, List, [], ◌∷◌, ◌++◌, Option, Some, None}
use Rattle.std.specs.List.{list_all}
use Rattle.source_layouts.specs.Bytes.{begins_word, is_word, is_raw_prefix}

pub record Piece : Type 0 where
  -- the number of the line on which it ends, from 0; 0 if lines don't count
  pub line : ℕ
  pub is_directive : Bool
  pub text : List ℕ

-- Where a text is read: outside of what follows, behind a line's first `%`, behind a `/` that may begin a comment, in a literal of either kind or
-- behind a backslash there, in a comment to the line's end, in another or behind a `*` there, in a directive or behind a backslash there, or nowhere.
pub data Mode : Type 0 where
  Code : Mode
  Percent : Mode
  Slash : Mode
  Text : Mode
  TextEscape : Mode
  Character : Mode
  CharacterEscape : Mode
  Remark : Mode
  Block : Mode
  Star : Mode
  Line : Mode
  LineEscape : Mode
  Odd : Mode

-- What has been read. `is_first` says that no piece has begun on the line, `word` are the letters and digits right before, `piece` is the one that has
-- begun, if one has.
pub record Scan : Type 0 where
  pub mode : Mode
  pub line : ℕ
  pub is_lined : Bool
  pub is_first : Bool
  pub word : List ℕ
  pub piece : List ℕ
  pub pieces : List Piece

abbrev pub start : Bool → Scan
start is_lined = record { mode = Code; line = 0; is_lined = is_lined; is_first = true; word = []; piece = []; pieces = [] }

abbrev pub turns : Mode → Scan → Scan
turns mode s = record s { mode = mode }

-- the byte goes on with a piece, or begins one
abbrev pub joins : Mode → ℕ → Scan → Scan
joins mode c s = record s { mode = mode; is_first = false; word = if is_word c then s.word ++ c ∷ [] else []; piece = s.piece ++ c ∷ [] }

abbrev pub ends_in : Bool → List ℕ → Scan → Scan
ends_in is_directive [] s = s
ends_in is_directive text s = record s { piece = []; pieces = s.pieces ++ record { line = s.line; is_directive = is_directive; text = text } ∷ [] }

-- the piece ends, if one has begun
abbrev pub ends : Bool → Scan → Scan
ends is_directive s = if s.is_first then s else ends_in is_directive s.piece s

abbrev pub next_line : Scan → Scan
next_line s = record s { line = if s.is_lined then s.line + 1 else s.line }

abbrev pub gap : Scan → Scan
gap s = if s.is_first then turns Code s else record (ends_in false s.piece s) { mode = Code; word = [] }

abbrev pub ends_line : Bool → Scan → Scan
ends_line is_directive s = record (next_line (ends is_directive s)) { mode = Code; is_first = true; word = [] }

-- a byte that goes on with a piece, whatever is before
abbrev pub is_plain : ℕ → Bool
is_plain c = list_all (λ k. not (c == k)) (32 ∷ 9 ∷ 10 ∷ 11 ∷ 12 ∷ 34 ∷ 35 ∷ 37 ∷ 39 ∷ 47 ∷ 92 ∷ [])

-- letters and digits that begin with a digit
abbrev pub is_number : List ℕ → Bool
is_number [] = false
is_number (c ∷ cs) = not (begins_word c)

abbrev pub in_code : ℕ → Scan → Scan
in_code c s =
    if is_plain c then joins Code c s else
    if (c == 32) || (c == 9) || (c == 12) then gap s else
    if c == 10 then ends_line false s else
    if c == 11 then next_line (gap s) else
    if c == 34 then (if is_raw_prefix s.word then turns Odd s else joins Text c s) else
    if c == 39 then (if is_number s.word then turns Odd s else joins Character c s) else
    if c == 35 then (if s.is_first then joins Line c s else joins Code c s) else
    if c == 37 then (if s.is_first then joins Percent c s else joins Code c s) else
    if c == 47 then turns Slash s else turns Odd s

abbrev pub behind_percent : ℕ → Scan → Scan
behind_percent c s = if c == 58 then joins Line c s else in_code c s

abbrev pub behind_slash : ℕ → Scan → Scan
behind_slash c s =
    if c == 47 then turns Remark (gap s) else
    if c == 42 then turns Block (gap s) else in_code c (joins Code 47 s)

abbrev pub in_remark : ℕ → Scan → Scan
in_remark c s =
    if c == 10 then ends_line false s else
    if c == 12 then turns Code s else
    if c == 92 then turns Odd s else s

abbrev pub in_block : ℕ → Scan → Scan
in_block c s = if c == 10 then turns Block (next_line s) else if c == 42 then turns Star s else turns Block s

abbrev pub behind_star : ℕ → Scan → Scan
behind_star c s = if c == 47 then turns Code s else in_block c s

abbrev pub in_literal : ℕ → Mode → Mode → ℕ → Scan → Scan
in_literal quote inside escape c s =
    if c == quote then joins Code c s else
    if c == 92 then joins escape c s else
    if c == 10 then turns Odd s else joins inside c s

abbrev pub escaped : Mode → ℕ → Scan → Scan
escaped inside c s = if c == 10 then turns Odd s else joins inside c s

abbrev pub in_line : ℕ → Scan → Scan
in_line c s = if c == 10 then ends_line true s else if c == 92 then joins LineEscape c s else joins Line c s

-- blanks may stand between a backslash and the end of the line that it joins to the next
abbrev pub behind_backslash : ℕ → Scan → Scan
behind_backslash c s =
    if c == 10 then next_line (joins Line c s) else
    if (c == 32) || (c == 9) then joins LineEscape c s else in_line c s

abbrev pub step_in : Mode → ℕ → Scan → Scan
step_in Code c s = in_code c s
step_in Percent c s = behind_percent c s
step_in Slash c s = behind_slash c s
step_in Text c s = in_literal 34 Text TextEscape c s
step_in TextEscape c s = escaped Text c s
step_in Character c s = in_literal 39 Character CharacterEscape c s
step_in CharacterEscape c s = escaped Character c s
step_in Remark c s = in_remark c s
step_in Block c s = in_block c s
step_in Star c s = behind_star c s
step_in Line c s = in_line c s
step_in LineEscape c s = behind_backslash c s
step_in Odd c s = s

abbrev pub step : ℕ → Scan → Scan
step c s = step_in s.mode c s

abbrev pub scan : Scan → List ℕ → Scan
scan s [] = s
scan s (c ∷ cs) = scan (step c s) cs

-- the pieces at the text's end; none in a literal, in a comment of several lines, or behind a backslash
abbrev pub found_in : Mode → Scan → Option (List Piece)
found_in Code s = Some (ends false s).pieces
found_in Percent s = Some (ends false s).pieces
found_in Slash s = Some (ends false (joins Code 47 s)).pieces
found_in Remark s = Some s.pieces
found_in Line s = Some (ends true s).pieces
found_in _ s = None

abbrev pub found : Scan → Option (List Piece)
found s = found_in s.mode s

-- the pieces of a text, if it has a reading
abbrev pub pieces : Bool → List ℕ → Option (List Piece)
pieces is_lined text = found (scan (start is_lined) text)
