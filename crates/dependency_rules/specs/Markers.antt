-- Line markers: the lines of preprocessed text that say which file follows.
use Rattle.std.specs.Prelude.{◌≡◌, ℕ, List, [], ◌∷◌, take, drop, Bool, true, false, ◌||◌, ◌==◌, nat_eq, Option, Some, None, if◌then◌else◌, codes, refl, bytes_eq, fold, option_and_then, position}
use Rattle.std.specs.List.{ends_with, starts_with}
use Rattle.std.specs.Option.{option_or}
use Rattle.std.specs.Str.Lines.{lines}
use Rattle.texts.specs.Lists.{is_some_and, rest_after, with_name}

-- whether a name is none of a file: `<built-in>` or the working directory
abbrev pub is_no_file : List ℕ → Bool
is_no_file name = starts_with nat_eq name (codes "<") || ends_with nat_eq name (codes "/")

-- whether a text is a mark and no more
abbrev pub is_mark : List ℕ → List ℕ → Bool
is_mark mark text = is_some_and (λ rest. bytes_eq rest []) (rest_after mark text)

-- what gcc writes behind the name of a file of the program, from the quote on, and behind one of the system
abbrev pub is_of_program : List ℕ → Bool
is_of_program flags = is_mark (codes "\"") flags || is_mark (codes "\" 1") flags || is_mark (codes "\" 2") flags

abbrev pub is_of_system : List ℕ → Bool
is_of_system flags =
    is_mark (codes "\" 3") flags || is_mark (codes "\" 1 3") flags || is_mark (codes "\" 2 3") flags
    || is_mark (codes "\" 3 4") flags || is_mark (codes "\" 1 3 4") flags || is_mark (codes "\" 2 3 4") flags

-- the name that a rule lists by a name and what is behind it. If gcc doesn't write that (a string may have such a line), it is listed in place of the
-- name: it begins with a quote, so nvcc has to make the rule
abbrev pub listed : Bool → List ℕ → List ℕ → Option (List ℕ)
listed of_system name flags =
    if is_no_file name then None else
    if of_system || is_of_program flags then Some name else
    if is_of_system flags then None else Some flags

abbrev pub listed_to_quote : Bool → List ℕ → Option (List ℕ)
listed_to_quote of_system text = option_and_then (λ place. listed of_system (take place text) (drop place text)) (position (λ c. c == 34) text)

-- the file that a rule lists by a line: that of which a line marker begins the first line, with those of the system or without
abbrev pub file_listed : Bool → List ℕ → Option (List ℕ)
file_listed of_system line = option_and_then (listed_to_quote of_system) (rest_after (codes "# 1 \"") line)

-- names in order of first appearance, with that of a line, if it lists a file
abbrev pub noted : Bool → List (List ℕ) → List ℕ → List (List ℕ)
noted of_system seen line = with_name seen (file_listed of_system line)

abbrev pub noted_all : Bool → List (List ℕ) → List ℕ → List (List ℕ)
noted_all of_system seen text = fold (noted of_system) seen (lines text)

-- the files of texts, the source first
abbrev pub files_of : Bool → List ℕ → List (List ℕ) → List (List ℕ)
files_of of_system source texts = fold (noted_all of_system) (source ∷ []) texts

-- what follows the beginning of a text's first line marker, whose number depends on the version of gcc
abbrev pub behind_number : List ℕ → Option (List ℕ)
behind_number line = option_or (rest_after (codes "# 0 \"") line) (rest_after (codes "# 1 \"") line)

-- whether a line says that the source follows
abbrev pub is_source : List ℕ → List ℕ → Bool
is_source source line = is_some_and (λ rest. bytes_eq rest (codes "\"")) (option_and_then (rest_after source) (behind_number line))

abbrev pub first_is_source : List ℕ → List (List ℕ) → Bool
first_is_source source [] = false
first_is_source source (line ∷ lines) = is_source source line

abbrev pub begins_with_source : List ℕ → List ℕ → Bool
begins_with_source source text = first_is_source source (lines text)

-- examples
abbrev pub small_text : List ℕ
small_text = codes "# 0 \"k.cu\"\n# 1 \"/w//\"\n# 0 \"<built-in>\"\n# 1 \"<command-line>\" 1\n# 1 \"k.cu\"\n# 1 \"a b.h\" 1 3 4\n# 2 \"k.cu\" 2\n# 1 \"c.h\"\nx # 1 \"d.h\"\n# 1 \"a b.h\" 1\n"

pub four_files : files_of true (codes "k.cu") (small_text ∷ small_text ∷ codes "# 1 \"e.h\"" ∷ []) ≡ codes "k.cu" ∷ codes "a b.h" ∷ codes "c.h" ∷ codes "e.h" ∷ []
four_files = refl

-- a file of the system counts where it's one of the program later
pub own_files : files_of false (codes "k.cu") (small_text ∷ codes "# 1 \"e.h\" 3 4" ∷ []) ≡ codes "k.cu" ∷ codes "c.h" ∷ codes "a b.h" ∷ []
own_files = refl

pub beginning_of_the_text : begins_with_source (codes "k.cu") small_text ≡ true
beginning_of_the_text = refl

pub another_source : begins_with_source (codes "k.c") small_text ≡ false
another_source = refl

pub unfinished_marker : file_listed true (codes "# 1 \"k.h") ≡ None
unfinished_marker = refl

pub line_of_a_string : file_listed false (codes "# 1 \"k.h\" x 3") ≡ Some (codes "\" x 3")
line_of_a_string = refl
