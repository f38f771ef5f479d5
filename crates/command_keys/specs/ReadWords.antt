-- The words of a command as a cache knows them.
use Rattle.std.specs.Prelude.{◌≡◌, ℕ, List, [], ◌∷◌, Bool, true, false, not, ◌&&◌, ◌||◌, ◌==◌, nat_le, length, drop, if◌then◌else◌, Option, Some, None, map, codes, refl, option_map, option_and_then}
use Rattle.std.specs.List.{list_any}
use Rattle.compilers.specs.declared.plans.program.Program.{Program}
use Rattle.compilers.specs.declared.plans.program.Program.TheVariants.{Cicc, Ptxas, Cudafe, Fatbinary, Nvlink, Other}
use Rattle.command_keys.specs.declared.known_words.Form.{Form}
use Rattle.command_keys.specs.declared.known_words.Form.TheVariants.{Whole, Beginning, Valued}
use Rattle.command_keys.specs.declared.known_words.Meaning.{Meaning}
use Rattle.command_keys.specs.declared.known_words.Meaning.TheVariants as means
use Rattle.command_keys.specs.declared.reading.Role.{Role}
use Rattle.command_keys.specs.declared.reading.Role.TheVariants as roles
use Rattle.command_keys.specs.Images.{image_name, quotes}
use Rattle.command_keys.specs.KnownWords.{Row}
use Rattle.command_keys.specs.WordTable.{known_word}

-- a word, the name of a file in it, and what it is to a key
pub record Read : Type 0 where
  pub word : List ℕ
  pub name : List ℕ
  pub role : Role

abbrev pub plain : List ℕ → Role → Read
plain word role = record { word = word; name = []; role = role }

abbrev pub naming : List ℕ → List ℕ → Role → Read
naming word name role = record { word = word; name = name; role = role }

-- the value of an option
abbrev pub value_read : Meaning → List ℕ → Read
value_read means.Counts word = plain word roles.Counts
value_read means.Names word = plain word roles.Counts
value_read means.OwnName word = plain word roles.Counts
value_read means.Preprocessor word = plain word roles.Preprocessor
value_read means.File word = naming word word roles.Names
value_read means.Image word = plain word roles.Counts
value_read means.Refused word = plain word roles.Counts

-- whether a tool reads files that words alone name: fatbinary has them in options
abbrev pub takes_files : Program → Bool
takes_files Cudafe = true
takes_files Cicc = true
takes_files Ptxas = true
takes_files Fatbinary = false
takes_files Nvlink = false
takes_files Other = true

-- whether a word can be a name: `-` begins an option, and `@` has the tool read words from a file
abbrev pub is_name : List ℕ → Bool
is_name [] = false
is_name (c ∷ cs) = not ((c == 45) || (c == 64))

-- a word that no row fits, if it names a file that the tool reads
abbrev pub input_read : Program → List ℕ → Option Read
input_read tool word = if is_name word && takes_files tool then Some (naming word word roles.Reads) else None

-- what follows a row's text in a word
abbrev pub behind_text : List ℕ → List ℕ → Option (List ℕ)
behind_text text word = if nat_le (length text) (length word) then Some (drop (length text) word) else None

-- a word that names a file behind a row's text, and one that is an image
abbrev pub file_read : List ℕ → List ℕ → Option Read
file_read text word = if list_any quotes word then None else option_map (λ name. naming word name roles.Names) (behind_text text word)

abbrev pub image_read : List ℕ → List ℕ → Option Read
image_read text word =
    if list_any quotes word then None else option_map (λ name. naming word name roles.Reads) (option_and_then image_name (behind_text text word))

-- a word of which a file's name is a part
abbrev pub named_read : List ℕ → Form → List ℕ → Option Read
named_read text Whole word = Some (plain word roles.Counts)
named_read text Beginning word = file_read text word
named_read text Valued word = Some (plain word roles.Counts)

-- a word that a row fits
abbrev pub meant_read : List ℕ → Form → Meaning → List ℕ → Option Read
meant_read text form means.Counts word = Some (plain word roles.Counts)
meant_read text form means.Names word = Some (plain word roles.Counts)
meant_read text form means.OwnName word = Some (plain word roles.Counts)
meant_read text form means.Preprocessor word = Some (plain word roles.Preprocessor)
meant_read text form means.File word = named_read text form word
meant_read text form means.Image word = image_read text word
meant_read text form means.Refused word = None

abbrev pub row_read : Row → List ℕ → Option Read
row_read row word = meant_read row.0 row.1 row.2 word

-- what the next word is the value of
abbrev pub value_meaning : Form → Meaning → Option Meaning
value_meaning Whole meaning = None
value_meaning Beginning meaning = None
value_meaning Valued meaning = Some meaning

abbrev pub next_meaning : Row → Option Meaning
next_meaning row = value_meaning row.1 row.2

-- a word that is no value, by the row that fits it, and what the next word is the value of
abbrev pub read_by : Program → Option Row → List ℕ → Option (Read × Option Meaning)
read_by tool None word = option_map (λ read. (read, None)) (input_read tool word)
read_by tool (Some row) word = option_map (λ read. (read, next_meaning row)) (row_read row word)

abbrev pub option_read : Program → List ℕ → Option (Read × Option Meaning)
option_read tool word = read_by tool (known_word tool word) word

-- a word, given what it's the value of
abbrev pub word_read : Program → Option Meaning → List ℕ → Option (Read × Option Meaning)
word_read tool (Some meaning) word = Some (value_read meaning word, None)
word_read tool None word = option_read tool word

-- the words that are left, given what the first is the value of: none if a word can't be read, or if the last lacks its value
abbrev pub read_at_end : Option Meaning → Option (List Read)
read_at_end None = Some []
read_at_end (Some meaning) = None

abbrev pub read_from : Program → Option Meaning → List (List ℕ) → Option (List Read)
read_from tool option [] = read_at_end option
read_from tool option (word ∷ words) =
    option_and_then (λ next. option_map (λ read. next.0 ∷ read) (read_from tool next.1 words)) (word_read tool option word)

-- the words of a command
abbrev pub read_words : Program → List (List ℕ) → Option (List Read)
read_words tool words = read_from tool None words

-- Examples: cicc's, with a value that looks like an option; ptxas's image of another tool; a value that is missing; fatbinary's files.
pub words_of_cicc :
    read_words Cicc (codes "-tused" ∷ codes "x.ii" ∷ codes "-o" ∷ codes "-x" ∷ [])
    ≡ Some (plain (codes "-tused") roles.Counts ∷ naming (codes "x.ii") (codes "x.ii") roles.Reads
    ∷ plain (codes "-o") roles.Counts ∷ naming (codes "-x") (codes "-x") roles.Names ∷ [])
words_of_cicc = refl

pub words_of_gcc :
    read_words Other (codes "-DA" ∷ codes "-I" ∷ codes "i" ∷ codes "-O2" ∷ [])
    ≡ Some (plain (codes "-DA") roles.Preprocessor ∷ plain (codes "-I") roles.Preprocessor ∷ plain (codes "i") roles.Preprocessor ∷ plain (codes "-O2") roles.Counts ∷ [])
words_of_gcc = refl

pub words_of_fatbinary :
    read_words Fatbinary (codes "--create=a.fatbin" ∷ codes "--image3=kind=elf,file=x.cubin" ∷ [])
    ≡ Some (naming (codes "--create=a.fatbin") (codes "a.fatbin") roles.Names ∷ naming (codes "--image3=kind=elf,file=x.cubin") (codes "x.cubin") roles.Reads ∷ [])
words_of_fatbinary = refl

pub words_that_are_not_known :
    map (λ words. read_words Ptxas words) ((codes "--options-file=o" ∷ []) ∷ (codes "@o" ∷ []) ∷ (codes "-o" ∷ []) ∷ (codes "-arch=compute_80" ∷ []) ∷ (codes "--image3=file=x" ∷ []) ∷ [])
    ≡ None ∷ None ∷ None ∷ None ∷ None ∷ []
words_that_are_not_known = refl

pub words_that_are_refused :
    map (λ word. read_words Other (word ∷ [])) (codes "-Wa,-a" ∷ codes "-march=native" ∷ codes "-D" ∷ []) ≡ None ∷ None ∷ None ∷ []
words_that_are_refused = refl

pub quoted_files : read_words Fatbinary (codes "--create=a\"b" ∷ []) ≡ None
quoted_files = refl
