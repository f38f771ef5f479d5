-- The lines of a dry run. A dry run is the list of its bytes.
use Rattle.std.specs.Prelude.{◌≡◌, ℕ, List, [], ◌∷◌, Option, Some, None, map, refl, codes}
use Rattle.std.specs.List.{enumerate_from}
use Rattle.std.specs.Str.Lines.{lines}
use Rattle.texts.specs.Lists.{rest_after}

-- the lines, each with its number from 0 on. A line ends at a newline, and one carriage return right before that
-- newline goes too; an empty rest behind the last newline is no line
abbrev pub numbered_lines : List ℕ → List (ℕ × List ℕ)
numbered_lines bytes = enumerate_from 0 (lines bytes)

-- what follows the mark of a line that counts, and nothing where the line is unmarked
abbrev pub marked_text : List ℕ → Option (List ℕ)
marked_text line = rest_after (codes "#$ ") line

-- examples: the last line needs no newline, and without one it keeps its carriage return; the mark ends in a blank
pub lines_lose_their_ends : numbered_lines (codes "a\r\n\r\r\n\nb\r") ≡ (0, codes "a") ∷ (1, codes "\r") ∷ (2, []) ∷ (3, codes "b\r") ∷ []
lines_lose_their_ends = refl

pub mark_ends_in_a_blank : map marked_text (codes "#$" ∷ codes "#$ " ∷ []) ≡ None ∷ Some [] ∷ []
mark_ends_in_a_blank = refl
