-- The layout of a source text: what of it a preprocessor may see but for comments, blanks and empty lines.
--
-- Texts of one layout have the same tokens and the same directives, byte for byte; if lines count, on the same lines. `Pieces` defines both, and
-- `LayoutLaws` has the law. A text that a preprocessor may read in another way has none: one
-- with a raw string, a trigraph, a line that is joined to the next outside a directive, or an open literal. Nor has one with a comment of which
-- a preprocessor may warn.
use Rattle.std.specs.Prelude.{ℕ, ◌+◌, ◌-◌, Bool, true, false, not, ◌||◌, ◌&&◌, ◌==◌, if◌then◌else◌, List, [], ◌∷◌, ◌++◌, Option, Some, None, codes, nat_eq, nat_lt}
use Rattle.std.specs.Char.{is_ascii_digit}
use Rattle.std.specs.List.{starts_with}
use Rattle.std.specs.Int.{is_in_range}
use Rattle.source_layouts.specs.declared.state.State.{State}
use Rattle.source_layouts.specs.declared.state.State.TheVariants.{Between, Word, OtherWord, Number, Exponent, Dot, Slash, Percent, Text, TextEscape, Character, CharacterEscape, LineComment, Comment, CommentStar, CommentSlash, Hash, Directive, DirectiveEscape, Refused}
use Rattle.source_layouts.specs.Bytes.{begins_word, is_word, may_be_letter, is_blank, is_odd, is_exponent, is_raw_prefix}

-- Where a reader is in a text, and the layout so far. `token` is the word or comment that has begun, if one has, `last` the byte before in a
-- directive without joined lines, `ends` stands for the line ends of the comment that has begun, `depth` is how many brackets are open, `is_empty`
-- that the line has no token yet, `has_blank` that blanks or comments are behind its last token, `is_wide` that the comment has bytes that aren't
-- ASCII, `is_open` that the directive has a comment that goes on behind its line, and `is_lined` that lines count.
pub record Reading : Type 0 where
  pub state : State
  pub token : List ℕ
  pub ends : List ℕ
  pub last : ℕ
  pub depth : ℕ
  pub is_empty : Bool
  pub has_blank : Bool
  pub is_wide : Bool
  pub is_open : Bool
  pub is_lined : Bool
  pub out : List ℕ

abbrev pub beginning : Bool → Reading
beginning is_lined = record {
  state = Between;
  token = [];
  ends = [];
  last = 0;
  depth = 0;
  is_empty = true;
  has_blank = false;
  is_wide = false;
  is_open = false;
  is_lined = is_lined;
  out = [];
}

-- more brackets than this at once have no layout
abbrev pub most_brackets : ℕ
most_brackets = 65535

-- ---- what a byte can do

abbrev pub goes : State → Reading → Reading
goes state s = record s { state = state }

-- the byte goes on with a token
abbrev pub grow : State → ℕ → Reading → Reading
grow state c s = record s { state = state; out = s.out ++ c ∷ [] }

-- the byte begins a token: one blank stands between it and the line's last one, if there were any
abbrev pub start : State → ℕ → Reading → Reading
start state c s = record s {
  state = state;
  is_empty = false;
  has_blank = false;
  out = (if s.has_blank && not s.is_empty then s.out ++ 32 ∷ [] else s.out) ++ c ∷ [];
}

abbrev pub start_word : ℕ → Reading → Reading
start_word c s = record (start Word c s) { token = s.token ++ c ∷ [] }

abbrev pub grow_word : ℕ → Reading → Reading
grow_word c s = record (grow Word c s) { token = s.token ++ c ∷ [] }

-- a line ends: one without a token only counts if lines do
abbrev pub end_line : Reading → Reading
end_line s = record s {
  state = Between;
  is_empty = true;
  has_blank = false;
  out = if s.is_lined || not s.is_empty then s.out ++ 10 ∷ [] else s.out;
}

-- brackets only count if lines don't: then a directive within them, which may be a macro's, has no layout
abbrev pub open_bracket : ℕ → Reading → Reading
open_bracket c s =
    if s.is_lined then start Between c s else
    if nat_lt s.depth most_brackets then record (start Between c s) { depth = s.depth + 1 } else goes Refused s

abbrev pub close_bracket : ℕ → Reading → Reading
close_bracket c s =
    if s.is_lined then start Between c s else
    if s.depth == 0 then goes Refused s else record (start Between c s) { depth = s.depth - 1 }

abbrev pub start_directive : State → ℕ → Reading → Reading
start_directive state c s =
    if s.is_lined || (s.depth == 0) then record (start state c s) { last = 0; is_open = false } else goes Refused s

-- what a byte does that is in no token, if it begins no word or number and isn't blank
abbrev pub begins_beside_words : ℕ → Reading → Reading
begins_beside_words c s =
    if c == 10 then end_line s else
    if c == 47 then goes Slash s else
    if c == 46 then start Dot c s else
    if c == 34 then start Text c s else
    if c == 39 then start Character c s else
    if (c == 35) && s.is_empty then start_directive Hash c s else
    if (c == 37) && s.is_empty then start Percent c s else
    if c == 40 then open_bracket c s else
    if c == 41 then close_bracket c s else
    if is_odd c then goes Refused s else start Between c s

-- what a byte does that is in no token
abbrev pub begins : ℕ → Reading → Reading
begins c s =
    if is_blank c then record s { state = Between; has_blank = true } else
    if begins_word c then start_word c s else
    if may_be_letter c then start OtherWord c s else
    if is_ascii_digit c then start Number c s else begins_beside_words c s

-- ---- words, numbers and operators

abbrev pub in_word : ℕ → Reading → Reading
in_word c s =
    if is_word c then grow_word c s else
    if (c == 34) && is_raw_prefix s.token then goes Refused s else
    if may_be_letter c then grow OtherWord c (record s { token = [] }) else begins c (record s { token = [] })

-- If a letter isn't one to a preprocessor, a quote behind what follows it may begin a raw string, or separate digits.
abbrev pub in_other_word : ℕ → Reading → Reading
in_other_word c s =
    if (c == 34) || (c == 39) then goes Refused s else
    if is_word c || may_be_letter c then grow OtherWord c s else begins c s

-- A quote right behind a number may separate its digits, and has no layout.
abbrev pub in_number : ℕ → Reading → Reading
in_number c s =
    if is_exponent c then grow Exponent c s else
    if is_word c || may_be_letter c || (c == 46) then grow Number c s else
    if (c == 34) || (c == 39) then goes Refused s else begins c s

-- a sign right after an exponent's letter is the number's
abbrev pub in_exponent : ℕ → Reading → Reading
in_exponent c s = if (c == 43) || (c == 45) then grow Number c s else in_number c s

-- a `.` and a digit are of one number
abbrev pub behind_dot : ℕ → Reading → Reading
behind_dot c s = if is_ascii_digit c then grow Number c s else begins c s

-- `%:` is another way to write `#`
abbrev pub behind_percent : ℕ → Reading → Reading
behind_percent c s =
    if c == 58 then (if s.is_lined || (s.depth == 0) then record s { state = Hash; last = 0; is_open = false; out = s.out ++ c ∷ [] } else goes Refused s)
    else begins c s

-- ---- literals

abbrev pub quoted : ℕ → State → ℕ → Reading → Reading
quoted quote escape c s =
    if c == quote then grow Between c s else
    if c == 92 then grow escape c s else
    if (c == 10) || (c == 13) || (c == 0) then goes Refused s else grow s.state c s

-- what may join two lines behind a backslash has no layout
abbrev pub escaped : State → ℕ → Reading → Reading
escaped inside c s = if (c == 10) || (c == 13) || is_blank c then goes Refused s else grow inside c s

-- ---- comments

abbrev pub begin_comment : State → ℕ → Reading → Reading
begin_comment state c s = record s { state = state; token = s.token ++ 47 ∷ c ∷ [] }

-- a `/` that begins no comment is an operator
abbrev pub behind_slash : ℕ → Reading → Reading
behind_slash c s =
    if c == 47 then begin_comment LineComment c s else
    if c == 42 then begin_comment Comment c s else begins c (start Between 47 s)

-- A comment is left out, but for its line ends if lines count. One with other bytes than ASCII counts by its text, since a preprocessor warns of
-- some. A mark on each side tells its `//` from a `/` in front of it.
abbrev pub end_comment : Reading → Reading
end_comment s = record s {
  state = Between;
  has_blank = true;
  token = [];
  ends = [];
  is_wide = false;
  out = s.out ++ (if s.is_wide then 12 ∷ (s.token ++ 12 ∷ []) else s.ends);
}

-- a byte of a comment
abbrev pub comment_on : State → ℕ → Reading → Reading
comment_on state c s =
    if is_odd c then goes Refused s else record s {
      state = state;
      token = s.token ++ c ∷ [];
      ends = if s.is_lined && (c == 10) then s.ends ++ 11 ∷ [] else s.ends;
      is_wide = s.is_wide || is_in_range 128 255 c;
    }

abbrev pub in_line_comment : ℕ → Reading → Reading
in_line_comment c s = if c == 10 then end_line (end_comment s) else comment_on LineComment c s

abbrev pub in_comment : ℕ → Reading → Reading
in_comment c s = comment_on (if c == 42 then CommentStar else if c == 47 then CommentSlash else Comment) c s

abbrev pub behind_star : ℕ → Reading → Reading
behind_star c s = if c == 47 then end_comment (record s { token = s.token ++ 47 ∷ [] }) else in_comment c s

-- a preprocessor warns of `/*` in a comment
abbrev pub behind_comment_slash : ℕ → Reading → Reading
behind_comment_slash c s = if c == 42 then goes Refused s else in_comment c s

-- ---- directives

-- a directive may set the number of the next line by `line`, a number, or what a comment or a joined line hides
abbrev pub may_set_lines : ℕ → Bool
may_set_lines c = (c == 108) || (c == 47) || (c == 92) || is_ascii_digit c

-- whether a comment is open after a byte: `/*` opens one, and `*/` closes it
abbrev pub is_open_after : ℕ → Reading → Bool
is_open_after c s =
    if (c == 42) && (s.last == 47) then true else
    if (c == 47) && (s.last == 42) then false else s.is_open

-- the byte before the next one; the `*` of a comment's `/*` doesn't close it
abbrev pub last_after : ℕ → Reading → ℕ
last_after c s = if (c == 42) && (s.last == 47) then 0 else c

abbrev pub grow_directive : ℕ → Reading → Reading
grow_directive c s = record s { state = Directive; out = s.out ++ c ∷ []; last = last_after c s; is_open = is_open_after c s }

-- A directive ends with its line, if no comment goes on behind it.
abbrev pub in_directive : ℕ → Reading → Reading
in_directive c s =
    if c == 10 then (if s.is_open then goes Refused s else end_line s) else
    if c == 92 then grow DirectiveEscape c s else
    if is_odd c || ((c == 34) && (s.last == 82)) then goes Refused s else grow_directive c s

-- behind `#` and blanks
abbrev pub behind_hash : ℕ → Reading → Reading
behind_hash c s =
    if is_blank c then grow Hash c s else
    if not s.is_lined && may_set_lines c then goes Refused s else in_directive c s

-- behind a backslash: it joins two lines if only blanks are behind it
abbrev pub behind_backslash : ℕ → Reading → Reading
behind_backslash c s =
    if c == 10 then grow Directive c s else
    if is_blank c then grow DirectiveEscape c s else in_directive c (record s { last = 92 })

-- ---- a byte, and a text

abbrev pub step_in : State → ℕ → Reading → Reading
step_in Between c s = begins c s
step_in Word c s = in_word c s
step_in OtherWord c s = in_other_word c s
step_in Number c s = in_number c s
step_in Exponent c s = in_exponent c s
step_in Dot c s = behind_dot c s
step_in Slash c s = behind_slash c s
step_in Percent c s = behind_percent c s
step_in Text c s = quoted 34 TextEscape c s
step_in TextEscape c s = escaped Text c s
step_in Character c s = quoted 39 CharacterEscape c s
step_in CharacterEscape c s = escaped Character c s
step_in LineComment c s = in_line_comment c s
step_in Comment c s = in_comment c s
step_in CommentStar c s = behind_star c s
step_in CommentSlash c s = behind_comment_slash c s
step_in Hash c s = behind_hash c s
step_in Directive c s = in_directive c s
step_in DirectiveEscape c s = behind_backslash c s
step_in Refused c s = s

abbrev pub step : ℕ → Reading → Reading
step c s = step_in s.state c s

-- whether a text may end in a state: in no literal, and in no comment of several lines
abbrev pub may_end : State → Bool
may_end Text = false
may_end TextEscape = false
may_end Character = false
may_end CharacterEscape = false
may_end Comment = false
may_end CommentStar = false
may_end CommentSlash = false
may_end DirectiveEscape = false
may_end Refused = false
may_end _ = true

-- what the text's end ends: a comment, or an operator that might have begun one
abbrev pub ended_in : State → Reading → Reading
ended_in Slash s = start Between 47 s
ended_in LineComment s = end_comment s
ended_in _ s = s

abbrev pub ended : Reading → Reading
ended s = ended_in s.state s

-- the layout at the text's end: its last line has a line end if it has a token
abbrev pub ending : Reading → Option (List ℕ)
ending s =
    if not (may_end s.state) || s.is_open || not (s.is_lined || (s.depth == 0)) then None else
    Some (if (ended s).is_empty then (ended s).out else (ended s).out ++ 10 ∷ [])

abbrev pub read : Reading → List ℕ → Reading
read s [] = s
read s (c ∷ cs) = read (step c s) cs

-- two question marks in a row, with which trigraphs begin
abbrev pub has_trigraph : List ℕ → Bool
has_trigraph [] = false
has_trigraph (c ∷ cs) = ((c == 63) && starts_with nat_eq cs (codes "?")) || has_trigraph cs

-- the layout of a text, if it has one; a byte order mark has none
abbrev pub layout : Bool → List ℕ → Option (List ℕ)
layout is_lined text =
    if starts_with nat_eq text (239 ∷ 187 ∷ 191 ∷ []) || has_trigraph text then None else ending (read (beginning is_lined) text)
