-- How a POSIX shell divides a text into words and operators, before it runs anything. A text has a reading only if every
-- shell takes each of its characters alike: a text in which a shell would expand, redirect, or start a comment has none.
use Rattle.std.specs.Prelude.{ℕ, Bool, true, false, ◌||◌, ◌&&◌, ◌==◌, not, if◌then◌else◌, List, [], ◌∷◌, ◌++◌, Option, Some, None, codes, option_map, option_and_then, bytes_eq}
use Rattle.std.specs.List.{list_any}
use Rattle.texts.specs.Shell.{newline, hash, backslash, single_quote, double_quote, is_escapable}

-- a word of a command, its quotes removed, or an operator: a newline, `;`, `&`, `|`, `&&`, `||`, `(` or `)`
pub data Token : Type 0 where
  Word : List ℕ → Token
  Operator : List ℕ → Token

-- what an unquoted character is to a shell
pub data Role : Type 0 where
  Blank : Role
  -- an operator by itself: a newline, `)`
  Lone : Role
  -- an operator, or the beginning of one: `&`, `|`, `;`, `(`
  Opening : Role
  Backslash : Role
  SingleQuote : Role
  DoubleQuote : Role
  -- `$`, a backtick, `*`, `?`, `[`, `{`, `}`, `<` and `>`, which a shell acts on
  Acting : Role
  -- `#` and `~`, which a shell acts on at the beginning of a word
  Leading : Role
  -- `=`, which makes an assignment of a word, unless the word begins with `-`
  Equals : Role
  Plain : Role

-- `$` or a backtick
abbrev pub is_expanding : ℕ → Bool
is_expanding c = (c == 36) || (c == 96)

abbrev pub role_of : ℕ → Role
role_of c =
    if (c == 32) || (c == 9) then Blank else
    if (c == newline) || (c == 41) then Lone else
    if (c == 38) || (c == 124) || (c == 59) || (c == 40) then Opening else
    if c == backslash then Backslash else
    if c == single_quote then SingleQuote else
    if c == double_quote then DoubleQuote else
    if is_expanding c then Acting else
    if (c == 42) || (c == 63) || (c == 91) || (c == 123) || (c == 125) || (c == 60) || (c == 62) then Acting else
    if (c == hash) || (c == 126) then Leading else
    if c == 61 then Equals else Plain

-- Where a shell is in a text. In a word the flag says that the word begins with an unquoted `-`.
pub data Place : Type 0 where
  Between : Place
  -- right after a character that may begin an operator
  After : ℕ → Place
  -- after a backslash between words
  EscapedBetween : Place
  Inside : Bool → Place
  Escaped : Bool → Place
  SingleQuoted : Bool → Place
  DoubleQuoted : Bool → Place
  EscapedInQuotes : Bool → Place

-- what a character does: the place after it, the tokens that it ends, and the characters that it adds to the word that it is in
abbrev pub Step : Type 0
Step = Place × List Token × List ℕ

-- to a place, and nothing else
abbrev pub goes : Place → Option Step
goes place = Some (place, [], [])

-- to a place, with a character of a word
abbrev pub gives : Place → ℕ → Option Step
gives place c = Some (place, [], c ∷ [])

-- the step with one more token that ends before it
abbrev pub after_token : Token → Step → Step
after_token token step = (step.0, token ∷ step.1, step.2)

-- between words
abbrev pub between : ℕ → Role → Option Step
between c Blank = goes Between
between c Lone = Some (Between, Operator (c ∷ []) ∷ [], [])
between c Opening = goes (After c)
between c Backslash = goes EscapedBetween
between c SingleQuote = goes (SingleQuoted false)
between c DoubleQuote = goes (DoubleQuoted false)
between c Plain = gives (Inside (c == 45)) c
between c _ = None

-- Right after a character that may begin an operator: `&&` and `||` are operators, and any other character ends the operator.
-- Several operators in a row, and a backslash after one, have no reading: shells differ.
abbrev pub after : ℕ → ℕ → Role → Option Step
after opening c Opening = if (c == opening) && ((c == 38) || (c == 124)) then Some (Between, Operator (c ∷ c ∷ []) ∷ [], []) else None
after opening c Backslash = None
after opening c role = option_map (after_token (Operator (opening ∷ []))) (between c role)

-- in a word: a character that ends the word is then read as between words
abbrev pub inside : Bool → ℕ → Role → Option Step
inside option c Backslash = goes (Escaped option)
inside option c SingleQuote = goes (SingleQuoted option)
inside option c DoubleQuote = goes (DoubleQuoted option)
inside option c Acting = None
inside option c Leading = gives (Inside option) c
inside option c Equals = if option then gives (Inside option) c else None
inside option c Plain = gives (Inside option) c
inside option c role = option_map (after_token (Word [])) (between c role)

-- in double quotes
abbrev pub in_quotes : Bool → ℕ → Option Step
in_quotes option c =
    if c == double_quote then goes (Inside option) else
    if c == backslash then goes (EscapedInQuotes option) else
    if is_expanding c then None else gives (DoubleQuoted option) c

-- a character after a backslash: a newline is nothing
abbrev pub escaped : Place → Place → ℕ → Option Step
escaped at_newline otherwise c = if c == newline then goes at_newline else gives otherwise c

-- a character after a backslash in double quotes: a backslash stays before one that it doesn't escape
abbrev pub escaped_in_quotes : Bool → ℕ → Option Step
escaped_in_quotes option c =
    if is_escapable c then gives (DoubleQuoted option) c else
    if c == newline then goes (DoubleQuoted option) else Some (DoubleQuoted option, [], backslash ∷ c ∷ [])

-- what a character does at a place; none if the text has no reading
abbrev pub step : Place → ℕ → Option Step
step Between c = between c (role_of c)
step (After opening) c = after opening c (role_of c)
step EscapedBetween c = escaped Between (Inside false) c
step (Inside option) c = inside option c (role_of c)
step (Escaped option) c = escaped (Inside option) (Inside option) c
step (SingleQuoted option) c = if c == single_quote then goes (Inside option) else gives (SingleQuoted option) c
step (DoubleQuoted option) c = in_quotes option c
step (EscapedInQuotes option) c = escaped_in_quotes option c

-- the tokens, the first of which has these characters in front
abbrev pub prepend : List ℕ → List Token → List Token
prepend given [] = []
prepend given (Word word ∷ tokens) = Word (given ++ word) ∷ tokens
prepend given (Operator operator ∷ tokens) = Operator operator ∷ tokens

-- the tokens with what a character in front of them does
abbrev pub with_step : Step → List Token → List Token
with_step step tokens = step.1 ++ prepend step.2 tokens

-- the tokens at the text's end; none after a backslash or in quotes
abbrev pub at_end : Place → Option (List Token)
at_end Between = Some []
at_end (After opening) = Some (Operator (opening ∷ []) ∷ [])
at_end (Inside option) = Some (Word [] ∷ [])
at_end _ = None

-- the tokens of the rest of a text from a place; in a word the first is the rest of that word
abbrev pub tokens_from : Place → List ℕ → Option (List Token)
tokens_from place [] = at_end place
tokens_from place (c ∷ cs) = option_and_then (λ s. option_map (with_step s) (tokens_from s.0 cs)) (step place c)

-- the words and operators of a text, if it has a reading
abbrev pub tokens : List ℕ → Option (List Token)
tokens cs = tokens_from Between cs

-- whether a text begins with a character that ends a word, or is empty
abbrev pub ends_a_word : Role → Bool
ends_a_word Blank = true
ends_a_word Lone = true
ends_a_word Opening = true
ends_a_word role = false

abbrev pub is_apart : List ℕ → Bool
is_apart [] = true
is_apart (c ∷ cs) = ends_a_word (role_of c)

-- the words of tokens without operators
abbrev pub words_of : List Token → Option (List (List ℕ))
words_of [] = Some []
words_of (Word word ∷ tokens) = option_map (λ words. word ∷ words) (words_of tokens)
words_of (Operator operator ∷ tokens) = None

-- the words that a shell may take as its own at the beginning of a command
abbrev pub reserved : List (List ℕ)
reserved =
    codes "!" ∷ codes "case" ∷ codes "coproc" ∷ codes "do" ∷ codes "done" ∷ codes "elif" ∷ codes "else" ∷ codes "esac" ∷ codes "fi"
    ∷ codes "for" ∷ codes "function" ∷ codes "if" ∷ codes "in" ∷ codes "select" ∷ codes "then" ∷ codes "time" ∷ codes "until"
    ∷ codes "while" ∷ []

-- whether a word is a program's name at the beginning of a command: it isn't reserved, and isn't empty or a job of bash, as `%1`
abbrev pub is_program : List ℕ → Bool
is_program [] = false
is_program (c ∷ cs) = not (c == 37) && not (list_any (bytes_eq (c ∷ cs)) reserved)

-- words whose first is a program
abbrev pub as_command : List (List ℕ) → Option (List (List ℕ))
as_command [] = None
as_command (program ∷ words) = if is_program program then Some (program ∷ words) else None

-- the words of a text that is one command, its program first
abbrev pub command : List ℕ → Option (List (List ℕ))
command cs = option_and_then (λ ts. option_and_then as_command (words_of ts)) (tokens cs)
