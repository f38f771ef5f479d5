-- How the words of a command are quoted, so that they read back as themselves.
use Rattle.std.specs.Prelude.{ℕ, Bool, false, ◌||◌, ◌&&◌, ◌==◌, refl, if◌then◌else◌, List, [], ◌∷◌, ◌++◌, map, codes, encode_utf8_all, chars}
use Rattle.std.specs.Char.{is_ascii_alphanumeric}
use Rattle.std.specs.List.{list_all, flat_map}
use Rattle.texts.specs.Rows.{Gives}
use Rattle.texts.specs.Shell.{backslash, single_quote}

-- a letter or a digit of ASCII, or one of `_ - . / : , + @ %`
abbrev pub is_safe : ℕ → Bool
is_safe c =
    is_ascii_alphanumeric c || (c == 95) || (c == 45) || (c == 46) || (c == 47) || (c == 58)
    || (c == 44) || (c == 43) || (c == 64) || (c == 37)

-- Whether a word needs no quotes: it is not empty, and all of it is safe. A word that begins with `-` may contain
-- `=` too; any other word with `=` could be an assignment.
abbrev pub is_plain : List ℕ → Bool
is_plain [] = false
is_plain (first ∷ rest) = is_safe first && list_all (λ c. is_safe c || ((first == 45) && (c == 61))) rest

-- a character between single quotes; the single quote is written as `'\''`
abbrev pub quoted_char : ℕ → List ℕ
quoted_char c = if c == single_quote then single_quote ∷ backslash ∷ single_quote ∷ single_quote ∷ [] else c ∷ []

-- a word as it is written
abbrev pub quoted_word : List ℕ → List ℕ
quoted_word word = if is_plain word then word else single_quote ∷ (flat_map quoted_char word ++ single_quote ∷ [])

-- the further words of a command as they are written, each with a space in front
abbrev pub further : List (List ℕ) → List ℕ
further words = flat_map (λ word. 32 ∷ quoted_word word) words

-- the words of a command as they are written, with a space between each two
abbrev pub quoted : List (List ℕ) → List ℕ
quoted [] = []
quoted (word ∷ words) = quoted_word word ++ further words

-- the words of a command as they are written, all as bytes
abbrev pub written : List (List ℕ) → List ℕ
written words = encode_utf8_all (quoted (map chars words))

pub quoted_lists : Gives quoted (
    (codes "-std=c++17" ∷ codes "a/b.cu" ∷ [], codes "-std=c++17 a/b.cu")
    ∷ (codes "a b" ∷ [] ∷ codes "it's" ∷ codes "A=1" ∷ [], codes "'a b' '' 'it'\\''s' 'A=1'")
    ∷ ([], [])
    ∷ [])
quoted_lists = refl
