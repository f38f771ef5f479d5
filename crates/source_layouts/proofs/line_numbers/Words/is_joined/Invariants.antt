use Rattle.std.proofs.Common.{◌≡◌, ◌++◌, ◌∷◌, [], length}
use Rattle.source_layouts.specs.LineNumbers.{joined_up_to, joined_at}
use Rattle.source_layouts.specs.WordSets.{has}
use Rattle.source_layouts.proofs.line_numbers.Words.is_joined.Given as goal

abbrev pub invariant-loop-place : goal.invariant-loop-place
invariant-loop-place l =
    (l.joined.items ++ l.last ∷ [] ≡ joined_up_to (has l.self) l.text l.place) × (l.last ≡ joined_at (has l.self) l.text l.place) × (length l.joined.items ≡ l.place)
