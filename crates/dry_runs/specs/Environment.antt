-- Environment lines, and the expansion of references to them.
use Rattle.std.specs.Prelude.{◌≡◌, ℕ, List, [], ◌∷◌, ◌++◌, Bool, false, not, ◌==◌, ◌&&◌, ◌||◌, nat_le, length, drop, fold, map, if◌then◌else◌, Option, Some, None, refl, codes, take_while, chars, bytes_eq}
use Rattle.ucd_perl.specs.Perl.{is_word_char}
use Rattle.texts.specs.Lists.{rest_after}
use Rattle.compilers.specs.Replacing.{replaced}

-- a variable and its value
abbrev pub Variable : Type 0
Variable = List ℕ × List ℕ

-- a byte of a variable's name in an environment line: `_` or a capital letter
abbrev pub is_name_byte : ℕ → Bool
is_name_byte c = (c == 95) || (nat_le 65 c && nat_le c 90)

-- a name, and its value behind a `=`
abbrev pub assigned : List ℕ → List ℕ → Option Variable
assigned [] rest = None
assigned (_ ∷ _) [] = None
assigned (c ∷ name) (d ∷ value) = if d == 61 then Some (c ∷ name, value) else None

-- what an environment line assigns: it begins with one or more bytes of a name, a `=` follows them, and the rest is
-- the value; nothing where the text is no environment line
abbrev pub assignment : List ℕ → Option Variable
assignment text =
    let name = take_while is_name_byte text in
    assigned name (drop (length name) text)

-- whether a text begins with a character that isn't a word character
abbrev pub begins_otherwise : List ℕ → Bool
begins_otherwise [] = false
begins_otherwise (c ∷ _) = not (is_word_char c)

abbrev pub is_followed : Option (List ℕ) → Bool
is_followed None = false
is_followed (Some rest) = begins_otherwise (chars rest)

-- whether a text holds a reference somewhere right before a character that isn't a word character. At its end the
-- text has no such character
abbrev pub refers : List ℕ → List ℕ → Bool
refers reference [] = false
refers reference (c ∷ cs) = is_followed (rest_after reference (c ∷ cs)) || refers reference cs

-- a text with the references to one variable expanded: all of them, as soon as one counts
abbrev pub expanded_by : List ℕ → Variable → List ℕ
expanded_by text v =
    let reference = codes "$" ++ v.0 in
    if refers reference text then replaced reference v.1 text else text

-- a text with the variables of an environment expanded, one after the other
abbrev pub expanded : List Variable → List ℕ → List ℕ
expanded env text = fold expanded_by text env

-- examples: a digit is no byte of a name, the first `=` ends it, and the value may be empty
pub assigns :
    map {B = Option Variable} assignment (codes "A_B=c=d" ∷ codes "PATH=" ∷ codes "A1=x" ∷ codes "=x" ∷ [])
    ≡ Some (codes "A_B", codes "c=d") ∷ Some (codes "PATH", []) ∷ None ∷ None ∷ []
assigns = refl

-- an environment in which a variable is set: where its name is known, the first pair of that name has the new value; else
-- the pair comes last
abbrev pub with_variable : List (List ℕ × List ℕ) → List ℕ × List ℕ → List (List ℕ × List ℕ)
with_variable [] v = v ∷ []
with_variable (e ∷ es) v = if bytes_eq e.0 v.0 then (e.0, v.1) ∷ es else e ∷ with_variable es v

-- an environment with a run's environment lines folded in, one after the other
abbrev pub with_variables : List (List ℕ × List ℕ) → List (List ℕ × List ℕ) → List (List ℕ × List ℕ)
with_variables environment variables = fold with_variable environment variables
