-- The words of the two halves of a host compile.
use Rattle.std.specs.Prelude.{◌≡◌, ℕ, List, [], ◌∷◌, Bool, false, not, ◌&&◌, ◌||◌, ◌==◌, nat_eq, nat_lt, length, if◌then◌else◌, Option, Some, None, codes, refl, bytes_eq}
use Rattle.std.specs.Borrow.{Bor}
use Rattle.std.specs.List.{list_any, starts_with, ends_with}
use Rattle.texts.specs.Rows.{spaced}
use Prim.Native.String.{String}
use Rattle.command_files.specs.Files.{is_among}
use Rattle.early_starts.specs.declared.words.Half.{Half}
use Rattle.early_starts.specs.declared.words.Half.TheVariants.{Compiler, Assembler}
use Rattle.early_starts.specs.declared.words.Role.{Role}
use Rattle.early_starts.specs.declared.words.Role.TheVariants.{Phase, Language, Source, Product, Kept, Unknown}

abbrev pub shown : Bor (List ℕ) → List ℕ
shown text = text.now

-- Words that mean the same to both halves, and change nothing that is written beside the object or printed. Each was tried with gcc 12:
-- the halves make the whole compile's object, and gcc calls the assembler in the same way.
abbrev pub kept_words : List (List ℕ)
kept_words =
    spaced "-O -O0 -O1 -O2 -O3 -Os -Ofast -fPIC -fpic -fPIE -fpie -fdata-sections -ffast-math -ffunction-sections -fno-exceptions -fno-omit-frame-pointer -fno-rtti -fno-strict-aliasing -fomit-frame-pointer -fopenmp -fpermissive -fvisibility-inlines-hidden -isystem -m64 -mavx2 -mfma -o -pthread -w -x"

abbrev pub kept_beginnings : List (List ℕ)
kept_beginnings = spaced "-D -I -U -W -fdiagnostics-color -fstack-protector -ftemplate-depth= -fvisibility= -march= -mtune= -std="

-- words that begin like warnings, but go to the assembler, the linker or the preprocessor
abbrev pub forwarded_beginnings : List (List ℕ)
forwarded_beginnings = spaced "-Wa, -Wl, -Wp,"

-- whether a word begins with a text and goes on
abbrev pub goes_on_behind : List ℕ → List ℕ → Bool
goes_on_behind word beginning = starts_with nat_eq word beginning && nat_lt (length beginning) (length word)

abbrev pub goes_on : List (List ℕ) → List ℕ → Bool
goes_on beginnings word = list_any (goes_on_behind word) beginnings

-- whether a word stays in both halves
abbrev pub is_kept : List ℕ → Bool
is_kept word = is_among kept_words word || (goes_on kept_beginnings word && not (goes_on forwarded_beginnings word))

-- whether a word names cudafe++'s file
abbrev pub is_source : List ℕ → Bool
is_source word = not (starts_with nat_eq word (codes "-")) && ends_with nat_eq word (codes ".cudafe1.cpp")

-- what a word is for that isn't the value of another
abbrev pub role_alone : List ℕ → Role
role_alone word = if bytes_eq word (codes "-c") then Phase else if is_kept word then Kept else if is_source word then Source else Unknown

-- what a word is for behind another
abbrev pub role_behind : List ℕ → List ℕ → Role
role_behind before word =
    if bytes_eq before (codes "-o") then Product else
    if bytes_eq before (codes "-isystem") then Kept else
    if not (bytes_eq before (codes "-x")) then role_alone word else
    if bytes_eq word (codes "c++") then Language else Unknown

-- what counts as the word before, behind another: a value isn't an option
abbrev pub next_before : List ℕ → List ℕ → List ℕ
next_before before word = if (bytes_eq before (codes "-o") || bytes_eq before (codes "-isystem")) || bytes_eq before (codes "-x") then [] else word

-- the place of a role in a line. Words that stay have none
abbrev pub place_of : Role → ℕ
place_of Phase = 0
place_of Language = 1
place_of Source = 2
place_of Product = 3
place_of Kept = 4
place_of Unknown = 5

-- the role that comes behind one, of words that don't stay. Behind the product comes none
abbrev pub role_after : Role → Role
role_after Phase = Language
role_after Language = Source
role_after Source = Product
role_after Product = Kept
role_after Kept = Kept
role_after Unknown = Kept

-- whether words behind another are known, and those that don't stay have the expected role and those after it
abbrev pub are_in_order : Role → List ℕ → List (List ℕ) → Bool
are_in_order expected before [] = place_of expected == 4
are_in_order expected before (w ∷ ws) =
    if place_of (role_behind before w) == 4 then are_in_order expected (next_before before w) ws else
    if place_of (role_behind before w) == place_of expected then are_in_order (role_after expected) (next_before before w) ws else false

-- whether a line is a host compile that has halves: -c, the language, cudafe++'s file and the object, in this order, and words that stay
abbrev pub has_halves : List (List ℕ) → Bool
has_halves words = are_in_order Phase [] words

-- a word of a half, given what it is for in the whole compile
abbrev pub word_of_compiler : Role → List ℕ → List ℕ → List ℕ
word_of_compiler Phase word text_file = codes "-S"
word_of_compiler Language word text_file = word
word_of_compiler Source word text_file = word
word_of_compiler Product word text_file = text_file
word_of_compiler Kept word text_file = word
word_of_compiler Unknown word text_file = word

abbrev pub word_of_assembler : Role → List ℕ → List ℕ → List ℕ
word_of_assembler Phase word text_file = word
word_of_assembler Language word text_file = codes "assembler"
word_of_assembler Source word text_file = text_file
word_of_assembler Product word text_file = word
word_of_assembler Kept word text_file = word
word_of_assembler Unknown word text_file = word

abbrev pub word_of : Half → Role → List ℕ → List ℕ → List ℕ
word_of Compiler role word text_file = word_of_compiler role word text_file
word_of Assembler role word text_file = word_of_assembler role word text_file

-- the words of a half behind another word
abbrev pub words_behind : Half → List ℕ → List ℕ → List (List ℕ) → List (List ℕ)
words_behind half text_file before [] = []
words_behind half text_file before (w ∷ ws) = word_of half (role_behind before w) w text_file ∷ words_behind half text_file (next_before before w) ws

-- the words of a half, if a line has halves
abbrev pub late_words : Half → List ℕ → List (List ℕ) → Option (List (List ℕ))
late_words half text_file words = if has_halves words then Some (words_behind half text_file [] words) else None

-- examples
abbrev of_words : Half → String → Option (List (List ℕ))
of_words half words = late_words half (codes "/t/k.s") (spaced words)

pub compiler_half :
    of_words Compiler "-DA=1 -c -x c++ -O2 -Wall -isystem /i -m64 /t/x_0.cudafe1.cpp -o k.o"
    ≡ Some (spaced "-DA=1 -S -x c++ -O2 -Wall -isystem /i -m64 /t/x_0.cudafe1.cpp -o /t/k.s")
compiler_half = refl

pub assembler_half :
    of_words Assembler "-DA=1 -c -x c++ -O2 -Wall -isystem /i -m64 /t/x_0.cudafe1.cpp -o k.o"
    ≡ Some (spaced "-DA=1 -c -x assembler -O2 -Wall -isystem /i -m64 /t/k.s -o k.o")
assembler_half = refl

-- debugging information shows the length of the fatbin
pub no_debugging : of_words Compiler "-c -x c++ -g /t/x_0.cudafe1.cpp -o k.o" ≡ None
no_debugging = refl

pub no_words_for_the_assembler : of_words Compiler "-c -x c++ -Wa,-a /t/x_0.cudafe1.cpp -o k.o" ≡ None
no_words_for_the_assembler = refl

-- a C++ source has no fatbin
pub no_source_of_the_user : of_words Compiler "-c -x c++ host.cpp -o k.o" ≡ None
no_source_of_the_user = refl

-- a folder of that name is no option
pub odd_folder :
    of_words Assembler "-c -x c++ -isystem -o /t/x_0.cudafe1.cpp -o -c" ≡ Some (spaced "-c -x assembler -isystem -o /t/k.s -o -c")
odd_folder = refl

pub no_product : of_words Compiler "-c -x c++ /t/x_0.cudafe1.cpp" ≡ None
no_product = refl
