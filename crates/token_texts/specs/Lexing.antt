-- The tokens of a preprocessed text. A token is the list of its bytes.
--
-- Tokens are those of C++, but for these, which depend on the language, its version and the compiler:
-- - Operators without a blank between them, as `=-` or `>>>`, are one token.
-- - A directive is one token, with its line end.
-- - A line marker is a token only if it enters a file, returns to one, or names another than the last one did. It has no number.
-- Blanks, line ends and comments are no tokens.
use Rattle.std.specs.Prelude.{ℕ, Bool, true, false, ◌||◌, ◌&&◌, ◌==◌, if◌then◌else◌, List, [], ◌∷◌, ◌++◌, Option, Some, None, codes, option_map, length, nat_eq, nat_lt, bytes_eq}
use Rattle.std.specs.List.{starts_with, ends_with}
use Rattle.token_texts.specs.declared.class.Class.{Class}
use Rattle.token_texts.specs.declared.class.Class.TheVariants as class
use Rattle.token_texts.specs.declared.lexer.State.{State}
use Rattle.token_texts.specs.declared.lexer.State.TheVariants.{LineStart, Between, Word, Number, Exponent, Separator, Operator, Dot, Slash, Text, TextEscape, Character, CharacterEscape, Closed, Suffix, RawDelimiter, Raw, LineComment, Comment, CommentStar, Hash, Directive, Marker, MarkerNumber, MarkerGap, MarkerName, MarkerEscape, Flags, Enters, Returns, Refused}
use Rattle.token_texts.specs.Classes.{class_of}

-- where a lexer is: the state, the token so far, `)` and the delimiter of the raw string that it is in, and the last line marker
pub record Lexing : Type 0 where
  pub state : State
  pub token : List ℕ
  pub delimiter : List ℕ
  pub place : List ℕ

abbrev pub beginning : Lexing
beginning = record { state = LineStart; token = []; delimiter = []; place = [] }

-- what a byte does: where the lexer is after it, and the tokens that end
abbrev pub Step : Type 0
Step = Lexing × List (List ℕ)

-- ---- what a byte can do

abbrev pub goes : State → Lexing → Step
goes state s = (record s { state = state }, [])

-- the byte goes on with the token
abbrev pub grow : State → ℕ → Lexing → Step
grow state c s = (record s { state = state; token = s.token ++ c ∷ [] }, [])

-- the token ends before the byte
abbrev pub ends : State → Lexing → Step
ends state s = (record s { state = state; token = [] }, s.token ∷ [])

-- what a byte does that isn't in a token
abbrev pub begins : Class → ℕ → Lexing → Step
begins class.Blank c s = goes Between s
begins class.LineEnd c s = goes LineStart s
begins class.Slash c s = goes Slash s
begins class.Other c s = goes Refused s
begins class.Lone c s = (record s { state = Between }, (c ∷ []) ∷ [])
begins class.Word c s = grow Word c s
begins class.Digit c s = grow Number c s
begins class.Operator c s = grow Operator c s
begins class.Dot c s = grow Dot c s
begins class.DoubleQuote c s = grow Text c s
begins class.SingleQuote c s = grow Character c s

-- the token ends before the byte, which may begin another
abbrev pub ends_and_begins : Class → ℕ → Lexing → Step
ends_and_begins k c s =
    let next = begins k c (record s { state = Between; token = [] }) in
    (next.0, s.token ∷ next.1)

-- `#` begins a directive only as the first byte of a line
abbrev pub at_line_start : Class → ℕ → Lexing → Step
at_line_start k c s = if c == 35 then goes Hash s else begins k c s

-- ---- words, numbers and operators

abbrev pub is_encoding : List ℕ → Bool
is_encoding word = bytes_eq word (codes "L") || bytes_eq word (codes "u") || bytes_eq word (codes "U") || bytes_eq word (codes "u8")

abbrev pub is_raw_prefix : List ℕ → Bool
is_raw_prefix word =
    bytes_eq word (codes "R") || bytes_eq word (codes "LR") || bytes_eq word (codes "uR") || bytes_eq word (codes "UR")
    || bytes_eq word (codes "u8R")

abbrev pub in_word : Class → ℕ → Lexing → Step
in_word class.Word c s = grow Word c s
in_word class.Digit c s = grow Word c s
in_word class.DoubleQuote c s =
    if is_encoding s.token then grow Text c s else
    if is_raw_prefix s.token then grow RawDelimiter c (record s { delimiter = 41 ∷ [] }) else ends_and_begins class.DoubleQuote c s
in_word class.SingleQuote c s = if is_encoding s.token then grow Character c s else ends_and_begins class.SingleQuote c s
in_word k c s = ends_and_begins k c s

-- e, E, p or P
abbrev pub is_exponent : ℕ → Bool
is_exponent c = (c == 101) || (c == 69) || (c == 112) || (c == 80)

abbrev pub in_number : Class → ℕ → Lexing → Step
in_number class.Word c s = if is_exponent c then grow Exponent c s else grow Number c s
in_number class.Digit c s = grow Number c s
in_number class.Dot c s = grow Number c s
in_number class.SingleQuote c s = grow Separator c s
in_number k c s = ends_and_begins k c s

-- a sign right after an exponent's letter is the number's
abbrev pub in_exponent : Class → ℕ → Lexing → Step
in_exponent k c s = if (c == 43) || (c == 45) then grow Number c s else in_number k c s

-- digits or letters follow a `'` in a number
abbrev pub behind_separator : Class → ℕ → Lexing → Step
behind_separator class.Word c s = in_number class.Word c s
behind_separator class.Digit c s = in_number class.Digit c s
behind_separator k c s = goes Refused s

-- `%:` is another way to write `#`, and has no reading
abbrev pub in_operator : Class → ℕ → Lexing → Step
in_operator class.Operator c s = if (c == 58) && ends_with nat_eq s.token (codes "%") then goes Refused s else grow Operator c s
in_operator class.Dot c s = grow Dot c s
in_operator class.Slash c s = goes Slash s
in_operator k c s = ends_and_begins k c s

-- a `.` and a digit are of one number
abbrev pub behind_dot : Class → ℕ → Lexing → Step
behind_dot class.Digit c s = grow Number c s
behind_dot k c s = in_operator k c s

-- ---- comments

-- the operators in front of a comment end, if there are any
abbrev pub begins_comment : State → Lexing → Step
begins_comment state s = if length s.token == 0 then goes state s else ends state s

-- a `/` that begins no comment is of an operator
abbrev pub behind_slash : Class → ℕ → Lexing → Step
behind_slash k c s =
    if c == 47 then begins_comment LineComment s else
    if c == 42 then begins_comment Comment s else in_operator k c (record s { token = s.token ++ 47 ∷ [] })

-- In comments, a backslash has no reading: it may join two lines.
abbrev pub in_comment : ℕ → State
in_comment c = if c == 92 then Refused else if c == 42 then CommentStar else Comment

-- ---- literals

-- Between quotes: a newline there has no reading.
abbrev pub quoted : ℕ → State → State → ℕ → Lexing → Step
quoted quote escape closed c s =
    if c == quote then grow closed c s else
    if c == 92 then grow escape c s else
    if c == 10 then goes Refused s else grow s.state c s

abbrev pub escaped : State → ℕ → Lexing → Step
escaped inside c s = if c == 10 then goes Refused s else grow inside c s

-- A literal can end with a word. A digit or a second literal right there has no reading.
abbrev pub behind_literal : Class → ℕ → Lexing → Step
behind_literal class.Word c s = grow Suffix c s
behind_literal class.Digit c s = goes Refused s
behind_literal k c s = ends_and_begins k c s

abbrev pub in_suffix : Class → ℕ → Lexing → Step
in_suffix class.Word c s = grow Suffix c s
in_suffix class.Digit c s = grow Suffix c s
in_suffix class.DoubleQuote c s = goes Refused s
in_suffix class.SingleQuote c s = goes Refused s
in_suffix k c s = ends_and_begins k c s

-- a delimiter has at most 16 letters and digits
abbrev pub in_raw_delimiter : Class → ℕ → Lexing → Step
in_raw_delimiter class.Word c s = grow RawDelimiter c (record s { delimiter = s.delimiter ++ c ∷ [] })
in_raw_delimiter class.Digit c s = grow RawDelimiter c (record s { delimiter = s.delimiter ++ c ∷ [] })
in_raw_delimiter k c s = if (c == 40) && nat_lt (length s.delimiter) 18 then grow Raw c s else goes Refused s

-- a raw string ends with the first `"` right after `)` and its delimiter
abbrev pub in_raw : ℕ → Lexing → Step
in_raw c s = if (c == 34) && ends_with nat_eq s.token s.delimiter then grow Closed c (record s { delimiter = [] }) else grow Raw c s

-- ---- directives and line markers

abbrev pub behind_hash : Class → ℕ → Lexing → Step
behind_hash class.Word c s = grow Directive c (record s { token = s.token ++ 35 ∷ [] })
behind_hash k c s = if c == 32 then goes Marker s else goes Refused s

-- what may begin a comment or a raw string in a directive, or join two lines
abbrev pub is_doubtful : List ℕ → ℕ → Bool
is_doubtful token c =
    (c == 92) || (((c == 47) || (c == 42)) && ends_with nat_eq token (codes "/"))
    || ((c == 34) && ends_with nat_eq token (codes "R"))

-- a directive ends with its line
abbrev pub in_directive : ℕ → Lexing → Step
in_directive c s =
    if c == 10 then (if starts_with nat_eq s.token (codes "#line") then goes Refused s else ends LineStart (record s { token = s.token ++ c ∷ [] })) else
    if is_doubtful s.token c then goes Refused s else grow Directive c s

-- what a line marker leaves: its file, and the flags 3 and 4
abbrev pub keeps_place : Lexing → Step
keeps_place s = (record s { place = s.token }, [])

-- a line marker that names the file of the last one is no token
abbrev pub ends_marker : ℕ → Lexing → Step
ends_marker c s =
    if bytes_eq s.token s.place then (record s { state = LineStart; token = [] }, [])
    else ends LineStart (record s { place = s.token; token = s.token ++ c ∷ [] })

-- in front of the file's name
abbrev pub in_marker_gap : ℕ → Lexing → Step
in_marker_gap c s = if c == 34 then grow MarkerName c s else goes Refused s

-- the flags of a line marker that moves to another file: 3 for a system header, 4 for one of C
abbrev pub in_move : ℕ → ℕ → Lexing → Step
in_move flag c s =
    if c == 10 then ends LineStart (record s { place = s.token; token = (s.token ++ flag ∷ []) ++ c ∷ [] }) else
    if c == 32 then (s, []) else
    if (c == 51) || (c == 52) then grow s.state c s else goes Refused s

-- the flags of any other: 1 if it enters a file, and 2 if it returns to one
abbrev pub in_flags : ℕ → Lexing → Step
in_flags c s =
    if c == 10 then ends_marker c s else
    if c == 32 then goes Flags s else
    if c == 49 then goes Enters s else
    if c == 50 then goes Returns s else
    if (c == 51) || (c == 52) then grow Flags c s else goes Refused s

-- ---- a byte, and a text

-- the state after a byte that is in no token: in a comment, or in a line marker's number, which is left out
abbrev pub state_after : State → Class → ℕ → State
state_after LineComment k c = if c == 92 then Refused else if c == 10 then LineStart else LineComment
state_after Comment k c = in_comment c
state_after CommentStar k c = if c == 47 then Between else in_comment c
state_after Marker class.Digit c = MarkerNumber
state_after MarkerNumber class.Digit c = MarkerNumber
state_after MarkerNumber class.LineEnd c = LineStart
state_after MarkerNumber class.Blank c = if c == 32 then MarkerGap else Refused
state_after state k c = Refused

-- what a byte of a class does in a state
abbrev pub step_in : State → Class → ℕ → Lexing → Step
step_in LineStart k c s = at_line_start k c s
step_in Between k c s = begins k c s
step_in Word k c s = in_word k c s
step_in Number k c s = in_number k c s
step_in Exponent k c s = in_exponent k c s
step_in Separator k c s = behind_separator k c s
step_in Operator k c s = in_operator k c s
step_in Dot k c s = behind_dot k c s
step_in Slash k c s = behind_slash k c s
step_in Text k c s = quoted 34 TextEscape Closed c s
step_in TextEscape k c s = escaped Text c s
step_in Character k c s = quoted 39 CharacterEscape Closed c s
step_in CharacterEscape k c s = escaped Character c s
step_in Closed k c s = behind_literal k c s
step_in Suffix k c s = in_suffix k c s
step_in RawDelimiter k c s = in_raw_delimiter k c s
step_in Raw k c s = in_raw c s
step_in Hash k c s = behind_hash k c s
step_in Directive k c s = in_directive c s
step_in MarkerGap k c s = in_marker_gap c s
step_in MarkerName k c s = quoted 34 MarkerEscape Flags c s
step_in MarkerEscape k c s = escaped MarkerName c s
step_in Flags k c s = in_flags c s
step_in Enters k c s = in_move 49 c s
step_in Returns k c s = in_move 50 c s
step_in state k c s = goes (state_after state k c) s

abbrev pub step : ℕ → Lexing → Step
step c s = step_in s.state (class_of c) c s

-- the tokens at the text's end; none in a literal, a comment of several lines or a directive
abbrev pub ending : State → List ℕ → Option (List (List ℕ))
ending LineStart token = Some []
ending Between token = Some []
ending LineComment token = Some []
ending Slash token = Some ((token ++ 47 ∷ []) ∷ [])
ending Word token = Some (token ∷ [])
ending Number token = Some (token ∷ [])
ending Exponent token = Some (token ∷ [])
ending Operator token = Some (token ∷ [])
ending Dot token = Some (token ∷ [])
ending Closed token = Some (token ∷ [])
ending Suffix token = Some (token ∷ [])
ending _ token = None

-- the tokens that end in the rest of a text
abbrev pub tokens_from : Lexing → List ℕ → Option (List (List ℕ))
tokens_from s [] = ending s.state s.token
tokens_from s (c ∷ cs) =
    let next = step c s in
    option_map (λ tokens. next.1 ++ tokens) (tokens_from next.0 cs)

-- two question marks in a row, with which trigraphs begin
abbrev pub has_trigraph : List ℕ → Bool
has_trigraph [] = false
has_trigraph (c ∷ cs) = ((c == 63) && starts_with nat_eq cs (codes "?")) || has_trigraph cs

-- the tokens of a text, if it has a reading
abbrev pub tokens : List ℕ → Option (List (List ℕ))
tokens text = if has_trigraph text then None else tokens_from beginning text
