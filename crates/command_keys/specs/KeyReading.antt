-- How a key is read back.
use Rattle.std.specs.Prelude.{◌≡◌, ℕ, ◌-◌, ◌==◌, nat_lt, List, [], ◌∷◌, map, Bool, true, false, if◌then◌else◌, refl, codes}
use Rattle.command_keys.specs.declared.marks.Part.{Part}
use Rattle.command_keys.specs.declared.marks.Part.TheVariants.{Byte, Root}
use Rattle.command_keys.specs.Keys.{Command, Ended, command_key, word_end, value_end, first_mark}
use Rattle.command_keys.specs.Marks.{text_of}

-- the parts of a text, and what ends it
abbrev pub EndedParts : Type 0
EndedParts = List Part × ℕ

-- a part in front of the first text
abbrev pub with_part : Part → List EndedParts → List EndedParts
with_part part [] = []
with_part part (text ∷ texts) = (part ∷ text.0, text.1) ∷ texts

-- the texts of what is left of a key, behind NUL or not: NUL itself says nothing, and a byte behind it is what ends a text, or the
-- letter of a root
abbrev pub read_from : Bool → List ℕ → List EndedParts
read_from after_nul [] = []
read_from false (byte ∷ rest) = if byte == 0 then read_from true rest else with_part (Byte byte) (read_from false rest)
read_from true (byte ∷ rest) =
    if nat_lt byte first_mark then ([], byte) ∷ read_from false rest else with_part (Root (byte - first_mark)) (read_from false rest)

-- the words among texts
abbrev pub words_of : List Ended → List (List ℕ)
words_of [] = []
words_of (text ∷ texts) = if text.1 == word_end then text.0 ∷ words_of texts else words_of texts

-- each value among texts, with the text before it as its name
abbrev pub variables_behind : List ℕ → List Ended → List (List ℕ × List ℕ)
variables_behind name [] = []
variables_behind name (text ∷ texts) = if text.1 == value_end then (name, text.0) ∷ variables_behind text.0 texts else variables_behind text.0 texts

-- the command of texts
abbrev pub command_of : List Ended → Command
command_of texts = (words_of texts, variables_behind [] texts)

-- the command that a key is of, with these roots
abbrev pub restored : List (List ℕ) → List ℕ → Command
restored roots key = command_of (map (λ text. (text_of roots text.0, text.1)) (read_from false key))

-- An example: the key of a command for `/t`, read with `/tmp`.
pub restored_elsewhere :
    restored (codes "/tmp" ∷ []) (command_key (codes "/t" ∷ []) (codes "cc" ∷ codes "-I/t/a" ∷ [], (codes "V", codes "/t") ∷ []))
    ≡ (codes "cc" ∷ codes "-I/tmp/a" ∷ [], (codes "V", codes "/tmp") ∷ [])
restored_elsewhere = refl
