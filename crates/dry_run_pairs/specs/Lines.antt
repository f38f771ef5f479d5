-- The marks of a dry run's lines. The lines are those that the planner reads: see `DryRunLines` of `dry_runs`.
use Rattle.std.specs.Prelude.{◌≡◌, ℕ, List, [], ◌∷◌, Bool, Option, map, codes, refl}
use Rattle.std.specs.Option.{is_some}
use Rattle.std.specs.Str.Lines.{lines}
use Rattle.texts.specs.Lists.{rest_after}

-- what follows the mark of a line that isn't a message of nvcc
abbrev pub marked : List ℕ → Option (List ℕ)
marked line = rest_after (codes "#$ ") line

abbrev pub is_marked : List ℕ → Bool
is_marked line = is_some (marked line)

-- examples: a newline may have a carriage return before it, and the last line needs none
pub three_lines : lines (codes "a\r\n\nb\r") ≡ codes "a" ∷ [] ∷ codes "b\r" ∷ []
three_lines = refl
