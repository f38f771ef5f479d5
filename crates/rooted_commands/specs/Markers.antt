-- Preprocessed texts with rooted names in their line markers. The byte 10 is a newline, 32 a blank, 34 `"`, 40 and 41 are parentheses, 92 is `\`.
use Rattle.std.specs.Prelude.{ℕ, ◌+◌, ◌-◌, ◌==◌, nat_le, nat_eq, length, take, drop, List, [], ◌∷◌, ◌++◌, Bool, not, ◌&&◌, ◌||◌, if◌then◌else◌, Option, Some, None, codes, option_and_then, option_map, position}
use Rattle.std.specs.Borrow.{Bor}
use Rattle.std.specs.List.{list_all, starts_with}
use Rattle.std.specs.Option.{option_or}
use Rattle.std.specs.Str.{is_utf8}
use Rattle.texts.specs.Lists.{rest_after}
use Rattle.texts.specs.Path.{lacks}
use Rattle.rooted_commands.specs.Paths.{rooted_path}
use Rattle.rooted_commands.specs.declared.markers.Place.{Place}
use Rattle.rooted_commands.specs.declared.markers.Place.TheVariants as places
use Rattle.rooted_commands.specs.declared.paths.Root.{Root}

-- how long a text's first line is, with its newline
abbrev pub line_length : List ℕ → ℕ
line_length [] = 0
line_length (c ∷ cs) = if c == 10 then 1 else 1 + line_length cs

-- the lines of a text, each with its newline. The last may have none
abbrev pub with_byte : ℕ → List (List ℕ) → List (List ℕ)
with_byte c [] = (c ∷ []) ∷ []
with_byte c (line ∷ lines) = (c ∷ line) ∷ lines

abbrev pub lines_of : List ℕ → List (List ℕ)
lines_of [] = []
lines_of (c ∷ cs) = if c == 10 then (c ∷ []) ∷ lines_of cs else with_byte c (lines_of cs)

-- Line markers: `# 12 "NAME"` and more.

abbrev pub is_digit : ℕ → Bool
is_digit byte = nat_le 48 byte && nat_le byte 57

abbrev pub behind_digits : List ℕ → List ℕ
behind_digits [] = []
behind_digits (c ∷ cs) = if is_digit c then behind_digits cs else c ∷ cs

abbrev pub behind_number : List ℕ → Option (List ℕ)
behind_number [] = None
behind_number (c ∷ cs) = if is_digit c then Some (behind_digits cs) else None

-- the rest of a line marker from its name on
abbrev pub marker_rest : List ℕ → Option (List ℕ)
marker_rest line = option_and_then (rest_after (codes " \"")) (option_and_then behind_number (rest_after (codes "# ") line))

abbrev pub quote : List ℕ → Option ℕ
quote text = position (λ c. c == 34) text

-- whether a name is that of a file, as it is: `<built-in>` is none, and a backslash stands for another byte
abbrev pub is_file_name : List ℕ → Bool
is_file_name name = lacks 92 name && not (starts_with nat_eq name (codes "<"))

abbrev pub if_utf8 : List ℕ → Option (List ℕ)
if_utf8 name = if is_utf8 name then Some name else None

abbrev pub file_path : List ℕ → Option (List ℕ)
file_path name = if is_file_name name then if_utf8 name else None

-- a name that is no file's, or no UTF-8, stays
abbrev pub by_path : Root → List ℕ → Option (List ℕ) → List ℕ
by_path r name None = name
by_path r name (Some path) = rooted_path r path

abbrev pub rooted_name : Root → List ℕ → List ℕ
rooted_name r name = by_path r name (file_path name)

-- the rest of a marker with a rooted name, given the place of the quote behind the name
abbrev pub rooted_rest : Root → List ℕ → Option ℕ → List ℕ
rooted_rest r rest None = rest
rooted_rest r rest (Some place) = rooted_name r (take place rest) ++ drop place rest

abbrev pub rooted_marker : Root → List ℕ → Option (List ℕ) → List ℕ
rooted_marker r line None = line
rooted_marker r line (Some rest) = take (length line - length rest) line ++ rooted_rest r rest (quote rest)

-- Raw strings: `R"DELIMITER(`, all up to `)DELIMITER"`. Their lines stay.

abbrev pub is_delimiter_byte : ℕ → Bool
is_delimiter_byte byte = not (byte == 32 || byte == 41 || byte == 92 || byte == 34)

abbrev pub delimiter_to : List ℕ → ℕ → Option (List ℕ)
delimiter_to text place = if nat_le place 16 && list_all is_delimiter_byte (take place text) then Some (take place text) else None

-- the delimiter that a text begins with, before `(`
abbrev pub delimiter : List ℕ → Option (List ℕ)
delimiter text = option_and_then (delimiter_to text) (position (λ c. c == 40) text)

-- what is behind the end of a raw string that a text begins with
abbrev pub behind_end : List ℕ → List ℕ → Option (List ℕ)
behind_end delim text = option_and_then (rest_after (codes "\"")) (option_and_then (rest_after delim) (rest_after (codes ")") text))

-- what is behind the first one in a text
abbrev pub behind_first_end : List ℕ → List ℕ → Option (List ℕ)
behind_first_end delim [] = None
behind_first_end delim (c ∷ cs) = option_or (behind_end delim (c ∷ cs)) (behind_first_end delim cs)

-- the delimiter of the raw string that a text begins with, if it has no end there
abbrev pub if_open : List ℕ → List ℕ → Option (List ℕ) → Option (List ℕ)
if_open delim text None = Some delim
if_open delim text (Some rest) = None

abbrev pub open_at : List ℕ → Option (List ℕ)
open_at text =
    option_and_then (λ inside. option_and_then (λ delim. if_open delim inside (behind_first_end delim inside)) (delimiter inside))
    (rest_after (codes "R\"") text)

-- the first of a line that has no end in it: its delimiter, and what is behind its `R`
abbrev pub first_open : List ℕ → Option (List ℕ × List ℕ)
first_open [] = None
first_open (c ∷ cs) = option_or (option_map (λ delim. (delim, cs)) (open_at (c ∷ cs))) (first_open cs)

abbrev pub shown_open : Bor (List ℕ) × Bor (List ℕ) → List ℕ × List ℕ
shown_open one = (one.0.now, one.1.now)

-- where a line begins: outside of raw strings, inside of one, or where it isn't known
pub data State : Type 0 where
  outside : State
  inside : List ℕ → State
  lost : State

-- as the code has it
abbrev pub shown : Place → State
shown places.Outside = outside
shown (places.Inside delim) = inside delim.now
shown places.Lost = lost

-- Where the next line begins. A text that only looks like the beginning of a raw string may be a second one: then all further lines stay.
abbrev pub if_alone : List ℕ → Option (List ℕ × List ℕ) → State
if_alone delim None = inside delim
if_alone delim (Some other) = lost

abbrev pub by_first : Option (List ℕ × List ℕ) → State
by_first None = outside
by_first (Some one) = if_alone one.0 (first_open one.1)

abbrev pub behind_outside : List ℕ → State
behind_outside line = by_first (first_open line)

abbrev pub by_end : List ℕ → Option (List ℕ) → State
by_end delim None = inside delim
by_end delim (Some rest) = behind_outside rest

abbrev pub state_after : State → List ℕ → State
state_after outside line = behind_outside line
state_after (inside delim) line = by_end delim (behind_first_end delim line)
state_after lost line = lost

-- a line by where it begins
abbrev pub rooted_line : Root → State → List ℕ → List ℕ
rooted_line r outside line = rooted_marker r line (marker_rest line)
rooted_line r (inside delim) line = line
rooted_line r lost line = line

abbrev pub rooted_lines : Root → State → List (List ℕ) → List ℕ
rooted_lines r state [] = []
rooted_lines r state (line ∷ lines) = rooted_line r state line ++ rooted_lines r (state_after state line) lines

abbrev pub rooted_text : Root → List ℕ → List ℕ
rooted_text r text = rooted_lines r outside (lines_of text)
