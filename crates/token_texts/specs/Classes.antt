-- What bytes are outside literals, comments and directives.
use Rattle.std.specs.Prelude.{ℕ, Bool, ◌||◌, ◌==◌, if◌then◌else◌}
use Rattle.std.specs.Char.{is_ascii_alphabetic, is_ascii_digit}
use Rattle.std.specs.Int.{is_in_range}
use Rattle.token_texts.specs.declared.class.Class.{Class}
use Rattle.token_texts.specs.declared.class.Class.TheVariants.{Blank, LineEnd, Word, Digit, Lone, Operator, Dot, Slash, DoubleQuote, SingleQuote, Other}

-- a letter of ASCII, `_`, `$`, or a byte of any other character
abbrev pub is_word : ℕ → Bool
is_word c = is_ascii_alphabetic c || (c == 95) || (c == 36) || is_in_range 128 255 c

-- one of ( ) { } ; ,
abbrev pub is_lone : ℕ → Bool
is_lone c = (c == 40) || (c == 41) || (c == 123) || (c == 125) || (c == 59) || (c == 44)

-- one of ! % & * + - : < = > ? [ ] ^ | ~
abbrev pub is_operator : ℕ → Bool
is_operator c =
    (c == 33) || (c == 37) || (c == 38) || (c == 42) || (c == 43) || (c == 45) || (c == 58) || (c == 60) || (c == 61)
    || (c == 62) || (c == 63) || (c == 91) || (c == 93) || (c == 94) || (c == 124) || (c == 126)

abbrev pub class_of : ℕ → Class
class_of c =
    if (c == 32) || (c == 9) then Blank else
    if c == 10 then LineEnd else
    if is_word c then Word else
    if is_ascii_digit c then Digit else
    if is_lone c then Lone else
    if c == 46 then Dot else
    if c == 47 then Slash else
    if c == 34 then DoubleQuote else
    if c == 39 then SingleQuote else
    if is_operator c then Operator else Other
