-- What a tool says, with the checkout's own folder in place of the root. The byte 47 is `/`.
use Rattle.std.specs.Prelude.{ℕ, ◌-◌, ◌==◌, nat_le, nat_eq, length, List, [], ◌∷◌, ◌++◌, Bool, true, false, not, ◌&&◌, ◌||◌, if◌then◌else◌, Option, Some, None, codes, refl}
use Rattle.std.specs.List.{starts_with}
use Rattle.texts.specs.Lists.{first_word, is_some_and, rest_after}
use Rattle.texts.specs.Rows.{Gives}
use Rattle.rooted_commands.specs.Paths.{call_in}
use Rattle.rooted_commands.specs.declared.paths.Root.{Root}

-- whether a byte may be inside a name, so that no path begins behind it: a letter, a digit, one of `_./+-`, or none of ASCII
abbrev pub is_letter_or_digit : ℕ → Bool
is_letter_or_digit byte = (nat_le 48 byte && nat_le byte 57) || (nat_le 65 byte && nat_le byte 90) || (nat_le 97 byte && nat_le byte 122)

abbrev pub is_in_name : ℕ → Bool
is_in_name byte = is_letter_or_digit byte || byte == 95 || byte == 46 || byte == 47 || byte == 43 || byte == 45 || nat_le 128 byte

-- whether a text begins with the root and `/`
abbrev pub begins_with_root : Root → List ℕ → Bool
begins_with_root r text = is_some_and (λ rest. starts_with nat_eq rest (codes "/")) (rest_after r.root text)

-- the rest of a text, of which so many bytes are left out, given whether it goes on inside a name
abbrev pub own_from : Root → List ℕ → ℕ → Bool → List ℕ → List ℕ
own_from r folder left in_name [] = []
own_from r folder left in_name (c ∷ cs) =
    if left == 0
    then (if not in_name && begins_with_root r (c ∷ cs)
    then folder ++ own_from r folder (length r.root - 1) true cs else c ∷ own_from r folder 0 (is_in_name c) cs)
    else own_from r folder (left - 1) true cs

-- a text with the first folder in place of the root, where a path begins with it
abbrev pub own_by : Root → List ℕ → Option (List ℕ) → List ℕ
own_by r text None = text
own_by r text (Some folder) = own_from r folder 0 false text

abbrev pub own_text : Root → List ℕ → List ℕ
own_text r text = own_by r text (first_word r.folders)

-- examples
pub own_texts : Gives (own_text (call_in (codes "/data/p") (codes "/t"))) (
    (codes "/src/a/k.cu(3): error", codes "/home/u/p/a/k.cu(3): error")
    ∷ (codes "In file included from /src/a.h:1,\n  from \"/src/b.h\"", codes "In file included from /home/u/p/a.h:1,\n  from \"/home/u/p/b.h\"")
    ∷ (codes "/usr/src/k.h /srcs/k.h /src", codes "/usr/src/k.h /srcs/k.h /src")
    ∷ (codes "/src/src/k.h", codes "/home/u/p/src/k.h")
    ∷ [])
own_texts = refl
