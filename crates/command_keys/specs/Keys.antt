-- The key of a command: its words and the variables that its tool reads, with marks in place of roots.
use Rattle.std.specs.Prelude.{◌≡◌, ℕ, ◌+◌, List, [], ◌∷◌, ◌++◌, nat_le, length, map, Bool, true, false, ◌&&◌, if◌then◌else◌, Option, Some, None, refl, codes}
use Rattle.std.specs.List.{flat_map, list_all}
use denote.Ref.{Bor}
use Rattle.texts.specs.Path.{lacks}
use Rattle.command_keys.specs.declared.marks.Part.{Part}
use Rattle.command_keys.specs.declared.marks.Part.TheVariants.{Byte, Root}
use Rattle.command_keys.specs.Marks.{parts, are_told, renamed}

-- the words of a command, its program first, and variables with their values
abbrev pub Command : Type 0
Command = List (List ℕ) × List (List ℕ × List ℕ)

-- what ends a text in a key, behind NUL: a word `0`, a variable's name `1`, its value `2`
abbrev pub word_end : ℕ
word_end = 48

abbrev pub name_end : ℕ
name_end = 49

abbrev pub value_end : ℕ
value_end = 50

-- what stands for the first root, behind NUL: `A`. The next has `B`
abbrev pub first_mark : ℕ
first_mark = 65

-- a text, and what ends it
abbrev pub Ended : Type 0
Ended = List ℕ × ℕ

abbrev pub texts_of_variable : List ℕ × List ℕ → List Ended
texts_of_variable variable = (variable.0, name_end) ∷ (variable.1, value_end) ∷ []

-- the texts of a command, in order
abbrev pub texts_of : Command → List Ended
texts_of command = map (λ word. (word, word_end)) command.0 ++ flat_map texts_of_variable command.1

-- a part in a key: a byte as it is, and for a root NUL and its letter
abbrev pub key_of_part : Part → List ℕ
key_of_part (Byte byte) = byte ∷ []
key_of_part (Root number) = 0 ∷ (first_mark + number) ∷ []

-- a text in a key
abbrev pub key_of_text : List (List ℕ) → Ended → List ℕ
key_of_text roots text = flat_map key_of_part (parts roots text.0) ++ 0 ∷ text.1 ∷ []

-- the key of a command
abbrev pub command_key : List (List ℕ) → Command → List ℕ
command_key roots command = flat_map (key_of_text roots) (texts_of command)

-- whether a variable's texts lack NUL
abbrev pub is_plain_variable : List ℕ × List ℕ → Bool
is_plain_variable variable = lacks 0 variable.0 && lacks 0 variable.1

-- whether all texts of a command lack NUL, as those of every process do
abbrev pub is_plain : Command → Bool
is_plain command = list_all (lacks 0) command.0 && list_all is_plain_variable command.1

-- how many roots there may be: a letter for each
abbrev pub most_roots : ℕ
most_roots = 26

-- the key of a command, if no text of it contains NUL and there are letters for all roots
abbrev pub key_of : List (List ℕ) → Command → Option (List ℕ)
key_of roots command = if nat_le (length roots) most_roots && is_plain command then Some (command_key roots command) else None

-- a command with each of some roots replaced by the one that has its number in other roots
abbrev pub renamed_command : List (List ℕ) → List (List ℕ) → Command → Command
renamed_command roots others command =
    (map (renamed roots others) command.0, map (λ v. (renamed roots others v.0, renamed roots others v.1)) command.1)

-- Whether a command that is renamed so has the other roots exactly where it had the old ones. `/u` isn't free in `/t/a /u/b`.
abbrev pub are_free : List (List ℕ) → List (List ℕ) → Command → Bool
are_free roots others command = list_all (λ text. are_told others (parts roots text.0)) (texts_of command)

-- what is seen of texts that are borrowed
abbrev pub shown : Bor (List ℕ) → List ℕ
shown text = text.now

abbrev pub shown_variable : Bor (List ℕ) × Bor (List ℕ) → List ℕ × List ℕ
shown_variable variable = (variable.0.now, variable.1.now)

-- Examples: `/u` is free in `cc -I/t/a`, and not in `cc /t/a /u/b`; `u/u` is not where it would begin before a root, as in `u/t`.
pub free_of_another_root : are_free (codes "/t" ∷ []) (codes "/u" ∷ []) (codes "cc" ∷ codes "-I/t/a" ∷ [], []) ≡ true
free_of_another_root = refl

pub not_free_beside_a_root : are_free (codes "/t" ∷ []) (codes "/u" ∷ []) (codes "cc" ∷ codes "/t/a" ∷ codes "/u/b" ∷ [], []) ≡ false
not_free_beside_a_root = refl

pub not_free_across_a_root : are_free (codes "t" ∷ []) (codes "u/u" ∷ []) (codes "u/t" ∷ [], []) ≡ false
not_free_across_a_root = refl

-- An example: `cc -I/t/a`, with a variable `V` that is `/t`.
pub key_of_a_command :
    command_key (codes "/t" ∷ []) (codes "cc" ∷ codes "-I/t/a" ∷ [], (codes "V", codes "/t") ∷ [])
    ≡ codes "cc" ++ 0 ∷ 48 ∷ codes "-I" ++ 0 ∷ 65 ∷ codes "/a" ++ 0 ∷ 48 ∷ codes "V" ++ 0 ∷ 49 ∷ 0 ∷ 65 ∷ 0 ∷ 50 ∷ []
key_of_a_command = refl
