-- Rows of the table of words that a cache knows, and which words a row fits.
use Rattle.std.specs.Prelude.{◌≡◌, ℕ, List, Bool, true, false, ◌&&◌, nat_eq, nat_lt, length, codes, refl, bytes_eq}
use Rattle.std.specs.List.{starts_with}
use Rattle.command_keys.specs.declared.known_words.KnownWord.{KnownWord}
use Rattle.command_keys.specs.declared.known_words.Form.{Form}
use Rattle.command_keys.specs.declared.known_words.Form.TheVariants.{Whole, Beginning, Valued}
use Rattle.command_keys.specs.declared.known_words.Meaning.{Meaning}
use Rattle.command_keys.specs.declared.known_words.Meaning.TheVariants.{Counts, Names, OwnName}

-- a row: the word or what it begins with, which words it fits, and what they are to a key
abbrev pub Row : Type 0
Row = List ℕ × Form × Meaning

-- what the code has in a row. What the tool does by a word is for readers
abbrev pub row_of : KnownWord → Row
row_of row = (row.text.now, row.form, row.meaning)

-- whether a form fits a word, given the row's text: a beginning has to go on
abbrev pub form_fits : List ℕ → List ℕ → Form → Bool
form_fits word text Whole = bytes_eq word text
form_fits word text Beginning = nat_lt (length text) (length word) && starts_with nat_eq word text
form_fits word text Valued = bytes_eq word text

-- whether a row fits a word
abbrev pub fits : List ℕ → Row → Bool
fits word row = form_fits word row.0 row.1

-- whether names of files reach the product by a row's words, or the product's own name
abbrev pub names_by : Meaning → Bool
names_by Names = true
names_by OwnName = true
names_by _ = false

abbrev pub names_itself_by : Meaning → Bool
names_itself_by OwnName = true
names_itself_by _ = false

abbrev pub is_naming : Row → Bool
is_naming row = names_by row.2

abbrev pub is_own_naming : Row → Bool
is_own_naming row = names_itself_by row.2

-- an example
pub beginnings_go_on : fits (codes "-W") (codes "-W", Beginning, Counts) ≡ false
beginnings_go_on = refl
