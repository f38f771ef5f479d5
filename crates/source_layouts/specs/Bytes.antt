-- What bytes are in source texts.
use Rattle.std.specs.Prelude.{ℕ, Bool, ◌||◌, ◌==◌, List, bytes_eq, codes}
use Rattle.std.specs.Char.{is_ascii_alphabetic, is_ascii_digit}
use Rattle.std.specs.Int.{is_in_range}

-- a letter of ASCII or `_`
abbrev pub begins_word : ℕ → Bool
begins_word c = is_ascii_alphabetic c || (c == 95)

abbrev pub is_word : ℕ → Bool
is_word c = begins_word c || is_ascii_digit c

-- `$`, or a byte of a character that isn't ASCII: some preprocessors take it for a letter, and some don't
abbrev pub may_be_letter : ℕ → Bool
may_be_letter c = (c == 36) || is_in_range 128 255 c

abbrev pub is_blank : ℕ → Bool
is_blank c = (c == 32) || (c == 9)

-- a control byte but for tabs and newlines, which mean nothing, or a backslash, which may join two lines
abbrev pub is_odd : ℕ → Bool
is_odd c = is_in_range 0 8 c || is_in_range 11 31 c || (c == 127) || (c == 92)

-- e, E, p or P
abbrev pub is_exponent : ℕ → Bool
is_exponent c = (c == 101) || (c == 69) || (c == 112) || (c == 80)

-- A `"` right after such a word begins a raw string.
abbrev pub is_raw_prefix : List ℕ → Bool
is_raw_prefix word =
    bytes_eq word (codes "R") || bytes_eq word (codes "LR") || bytes_eq word (codes "uR") || bytes_eq word (codes "UR")
    || bytes_eq word (codes "u8R")
