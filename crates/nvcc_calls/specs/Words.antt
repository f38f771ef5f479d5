-- Tests of words, the words of options in a normal form, and those of options files.
use Rattle.std.specs.Prelude.{◌≡◌, ℕ, List, [], ◌∷◌, ◌++◌, Bool, false, not, ◌==◌, ◌&&◌, ◌||◌, nat_eq, nat_lt, nat_le, length, map, if◌then◌else◌, Option, Some, None, refl, codes, bytes_eq, option_and_then}
use Rattle.std.specs.List.{list_any, list_all, ends_with}
use Rattle.std.specs.Str.{chars}
use Rattle.texts.specs.Rows.{spaced}
use Rattle.texts.specs.Shell.Splitting.{shell_words}
use Rattle.texts.specs.Variables.{first_value}

-- whether nvcc's shell leaves a word as it is in double quotes: no byte is `$`, a backtick or a control character, such as
-- the end of a line
abbrev pub is_unexpanded : List ℕ → Bool
is_unexpanded word = list_all (λ byte. nat_le 32 byte && not (byte == 36) && not (byte == 96) && not (byte == 127)) word

-- whether a shell leaves a byte as it is outside quotes: it isn't one of `!#&()*;<>?[]{|}~`
abbrev pub is_plain_byte : ℕ → Bool
is_plain_byte byte = not (list_any (λ c. c == byte) (codes "!#&()*;<>?[]{|}~"))

abbrev pub has_no_operator : List ℕ → Bool
has_no_operator value = list_all is_plain_byte value

-- whether nvcc cuts the value of `NVCC_PREPEND_FLAGS` or `NVCC_APPEND_FLAGS` as a shell does, at its spaces: it has no quote,
-- backslash, `#` or control character
abbrev pub is_cut_alike : ℕ → Bool
is_cut_alike byte = nat_le 32 byte && not (byte == 34) && not (byte == 35) && not (byte == 39) && not (byte == 92) && not (byte == 127)

abbrev pub is_cut_at_spaces : List ℕ → Bool
is_cut_at_spaces value = list_all is_cut_alike value

-- whether a text is a number that nvcc and sccache's reader take alike: one to nine digits, of which the first isn't 0
-- unless it is the only one
abbrev pub is_digit : ℕ → Bool
is_digit byte = nat_le 48 byte && nat_le byte 57

abbrev pub is_number : List ℕ → Bool
is_number [] = false
is_number (c ∷ cs) = is_digit c && list_all is_digit cs && nat_lt (length cs) 9 && (not (c == 48) || (length cs == 0))

-- whether nvcc takes a text for a language
abbrev pub is_language : List ℕ → Bool
is_language value = list_any (bytes_eq value) (spaced "c c++ cu")

-- whether a name looks like one: it isn't empty and doesn't begin with `-`
abbrev pub is_usual_name : List ℕ → Bool
is_usual_name [] = false
is_usual_name (c ∷ cs) = not (c == 45)

-- whether a value may stand right behind `-D`: it isn't empty, and doesn't begin with `=`
abbrev pub is_joinable : List ℕ → Bool
is_joinable [] = false
is_joinable (c ∷ cs) = not (c == 61)

-- an option and its value in one word: with `=` between them, unless the option's text ends in one
abbrev pub equals_word : List ℕ → List ℕ → List ℕ
equals_word text value = (text ++ (if ends_with nat_eq text (codes "=") then [] else codes "=")) ++ value

-- whether nvcc and a shell read a byte of an options file alike. Both cut words at spaces, tabs and ends of lines, and keep
-- what is in double quotes together. A backslash, `#`, `'` and other control characters mean something else to nvcc
abbrev pub is_file_byte : ℕ → Bool
is_file_byte byte = is_cut_alike byte || byte == 34 || byte == 9 || byte == 10

-- the words of a file's text, if they are certain
abbrev pub words_in : List ℕ → Option (List (List ℕ))
words_in text = if list_all is_file_byte text then shell_words text else None

-- whether nvcc takes an option's value for the name of one file as it is. It reads a list of names between commas, and drops
-- spaces around a name and quotes
abbrev pub is_name_byte : ℕ → Bool
is_name_byte byte = nat_lt 32 byte && not (byte == 34) && not (byte == 44) && not (byte == 92) && not (byte == 127)

-- the words of the file of a name, of files given by name and text: none if there is no such file, or if its name or its words aren't certain
abbrev pub words_of_file : List (List ℕ × List ℕ) → List ℕ → Option (List (List ℕ))
words_of_file files name =
    option_and_then (λ text. if is_usual_name name && list_all is_name_byte name then words_in text else None) (first_value name files)

-- examples
pub one_equals_sign : map (λ text. equals_word text (codes "4")) (spaced "-arch -t=") ≡ spaced "-arch=4 -t=4"
one_equals_sign = refl

pub words_in_files :
    map words_in (codes "-Iinc -DA\t\n\n -I\"a b\"/c\n" ∷ codes "-DA=\\\"x\\\"" ∷ [])
    ≡ Some (codes "-Iinc" ∷ codes "-DA" ∷ codes "-Ia b/c" ∷ []) ∷ None ∷ []
unfolding chars lib.Utf8.encode
words_in_files = refl

-- of two files of one name the first counts, and a list of names names none
pub words_by_name :
    map (words_of_file ((codes "f", codes "-c") ∷ (codes "f", codes "-g") ∷ (codes "f,g", codes "-c") ∷ [])) (spaced "f f,g")
    ≡ Some (spaced "-c") ∷ None ∷ []
unfolding chars lib.Utf8.encode
words_by_name = refl
